-- Frames: bytes preceded by their length, after Gazette's fixed framing.
use Rattle.std.specs.Prelude.{ℕ, slice_range, ◌<◌, ◌≤◌, ◌+◌, ◌*◌, ◌^◌, ◌==◌, List, [], ◌∷◌, ◌++◌, length, take, drop, Option, Some, None, Result, Ok, Err, ⊤, ◌≡◌, if◌then◌else◌, nat_lt}
use Rattle.std.specs.Int.{w32, to_le_bytes}
use Rattle.gz_frame.specs.declared.frame.FrameError.{FrameError}
use Rattle.gz_frame.specs.declared.frame.FrameError.TheVariants.{NeedMore, BadMagic, TooLong, NoMemory}
use Rattle.gz_frame.specs.declared.frame.Unframed.{Unframed}

-- the four bytes with which a frame begins
abbrev pub magic : List ℕ
magic = 0x66 ∷ 0x33 ∷ 0x93 ∷ 0x36 ∷ []

-- the most bytes of a content
abbrev pub max_content : ℕ
max_content = 1048576

-- a content's frame: the magic, the content's length in four bytes with the low one first, and the content
abbrev pub frame_of : List ℕ → List ℕ
frame_of content = magic ++ to_le_bytes w32 (length content) ++ content

-- the place, counted on from `at`, of the first byte that isn't the one that is wanted there
abbrev pub first_other : ℕ → List ℕ → List ℕ → Option ℕ
first_other at [] bytes = None
first_other at (m ∷ ms) [] = None
first_other at (m ∷ ms) (b ∷ bs) = if b == m then first_other (at + 1) ms bs else Some at

-- a number in bytes, the low one first
abbrev pub low_first : List ℕ → ℕ
low_first [] = 0
low_first (b ∷ bs) = b + 2 ^ 8 * low_first bs

-- the length that stands behind the magic, as far as it has come: what is missing counts as 0
abbrev pub length_in : List ℕ → ℕ
length_in bytes = low_first (take 4 (drop 4 bytes))

-- where a frame of a content of so many bytes stands at the start of so many bytes
abbrev pub unframed_within : ℕ → ℕ → Result Unframed FrameError
unframed_within len have =
    if nat_lt max_content len then Err TooLong
    else (if nat_lt have (8 + len) then Err NeedMore
    else Ok (record { begin = 8; end = 8 + len; used = 8 + len }))

abbrev pub unframed_unless : Option ℕ → List ℕ → Result Unframed FrameError
unframed_unless (Some at) bytes = Err (BadMagic at)
unframed_unless None bytes = unframed_within (length_in bytes) (length bytes)

-- the frame with which bytes begin
abbrev pub unframed : List ℕ → Result Unframed FrameError
unframed bytes = unframed_unless (first_other 0 magic bytes) bytes

-- the frame of a content that isn't too long
abbrev pub framed : List ℕ → Result (List ℕ) FrameError
framed content = if nat_lt max_content (length content) then Err TooLong else Ok (frame_of content)

-- an error is the one that framing gives, or out of memory
abbrev pub Fails : {Y : Type 0} → FrameError → Result Y FrameError → Type 0
Fails NeedMore framing = framing ≡ Err NeedMore
Fails (BadMagic at) framing = framing ≡ Err (BadMagic at)
Fails TooLong framing = framing ≡ Err TooLong
Fails NoMemory framing = ⊤

-- what was returned is what framing gives, unless memory ran out
abbrev pub Gives : {Y : Type 0} → Result Y FrameError → Result Y FrameError → Type 0
Gives (Ok x) framing = framing ≡ Ok x
Gives (Err e) framing = Fails e framing

-- A frame stands at the start of the bytes, with its content at this place.
pub record IsFramed (bytes : List ℕ) (place : Unframed) : Type 0 where
  pub starts : place.begin ≡ 8
  pub ends : place.end ≡ place.used
  pub short : length (slice_range bytes place.begin place.end) ≤ max_content
  pub joined : frame_of (slice_range bytes place.begin place.end) ++ drop place.used bytes ≡ bytes

-- the bytes are a prefix of a frame, and not all of it
pub record IsPrefix (bytes : List ℕ) : Type 0 where
  pub content : List ℕ
  pub more : List ℕ
  pub short : length content ≤ max_content
  pub some : 0 < length more
  pub joined : bytes ++ more ≡ frame_of content
