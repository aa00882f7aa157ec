mod Ranks
