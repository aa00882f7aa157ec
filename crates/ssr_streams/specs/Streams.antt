-- What reads, writes and whole texts do to what was given and taken so far.
use Rattle.std.specs.Prelude.{◌≡◌, ℕ, ◌+◌, ◌<◌, ◌≤◌, ◌==◌, if◌then◌else◌, Bool, true, false, List, ◌++◌, length, take, Option, IfSome}
use Rattle.std.specs.Io.KnownBytes.{Appends, Consumes, IsAtEnd, Keeps}

-- what a source gave so far: its bytes, whether the last read with room for one found the end, and how many
-- reads failed; and the bytes that it has left, where they are known, as those of a reader over memory are
pub record Given : Type 0 where
  pub bytes : List ℕ
  pub remaining : Option (List ℕ)
  pub ended : Bool
  pub failures : ℕ

-- what a sink took so far: its bytes, and how many writes failed or took no byte; and all that it holds, where
-- that is known
pub record Taken : Type 0 where
  pub bytes : List ℕ
  pub contents : Option (List ℕ)
  pub failures : ℕ

-- a read gave the first `count` bytes of the buffer, and with room for one it gave none only at the end
pub record Gives (old new : Given) (buffer : List ℕ) (count : ℕ) : Type 0 where
  pub within : count ≤ length buffer
  pub bytes : new.bytes ≡ old.bytes ++ take count buffer
  pub known : Consumes old.remaining new.remaining (take count buffer)
  pub ended : 0 < length buffer → new.ended ≡ (count == 0)
  pub at_end : count ≡ 0 → 0 < length buffer → IsAtEnd new.remaining
  pub calm : new.failures ≡ old.failures

-- a read failed, and gave nothing
pub record GivesNothing (old new : Given) : Type 0 where
  pub bytes : new.bytes ≡ old.bytes
  pub known : Keeps old.remaining new.remaining
  pub ended : new.ended ≡ old.ended
  pub failed : new.failures ≡ old.failures + 1

-- a write took the first `count` bytes of the buffer
pub record Takes (old new : Taken) (buffer : List ℕ) (count : ℕ) : Type 0 where
  pub within : count ≤ length buffer
  pub bytes : new.bytes ≡ old.bytes ++ take count buffer
  pub known : Appends old.contents new.contents (take count buffer)
  pub failed : new.failures ≡ old.failures + (if count == 0 then 1 else 0)

-- a write failed, and took nothing
pub record TakesNothing (old new : Taken) : Type 0 where
  pub bytes : new.bytes ≡ old.bytes
  pub known : Keeps old.contents new.contents
  pub failed : new.failures ≡ old.failures + 1

-- all bytes that a source had left were read
pub record IsRead (old new : Given) (input : List ℕ) : Type 0 where
  pub bytes : new.bytes ≡ old.bytes ++ input
  pub known : IfSome old.remaining (λ bytes. input ≡ bytes)
  pub ended : new.ended ≡ true
  pub calm : new.failures ≡ old.failures

-- a text was sent whole; or a write failed or took no byte, and only its first `count` bytes went out
pub data Sent (old new : Taken) (text : List ℕ) : Bool → Type 0 where
  whole : new.bytes ≡ old.bytes ++ text → Appends old.contents new.contents text
      → new.failures ≡ old.failures → Sent old new text true
  part : (count : ℕ) → count < length text → new.bytes ≡ old.bytes ++ take count text
      → Appends old.contents new.contents (take count text)
      → new.failures ≡ old.failures + 1 → Sent old new text false
