pub mod Shared
mod Steps
mod NamedByParts
mod Joined
mod JoinedParts
mod PutNames
mod Numbers
mod SamePlaces
mod FilledLow
mod LongRead
mod Places
mod Names
mod SolidChildren
mod Enough
mod Below
mod PathNames
mod Listing
