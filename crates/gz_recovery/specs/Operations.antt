-- Operations of a recovery log, and the content of a frame that says one.
use Rattle.std.specs.Prelude.{ℕ, ◌^◌, ◌<◌, ◌≤◌, List, [], length, Option, Some, None, option_map, option_and_then, if◌then◌else◌, nat_le, codes, Result, Ok, Err}
use Rattle.std.specs.Str.{bytes_eq}
use Rattle.std.specs.Int.{w64, to_be_bytes, from_be_bytes}
use Rattle.hex.specs.Hex.{encode_lower, decode_sized}
use Rattle.hex.specs.declared.error.FromHexError.{FromHexError}
use Rattle.serde_json.specs.Data.{Data, number, unsigned, string, object, Members, no_members, member, put}
use Rattle.serde_json.specs.Find.{get, as_str, as_number, as_u64}
use Rattle.serde_json.specs.Written.{compact_text}
use Rattle.gz_json.specs.Json.{json_of}
use Rattle.gz_recovery.specs.declared.op.OpKind.{OpKind}
use Rattle.gz_recovery.specs.declared.op.OpKind.TheVariants.{Create, Link, Unlink, Write, Property, Handoff}

-- Who wrote it, its number in the log, and what it does.
pub record Op : Type 0 where
  pub author : ℕ
  pub seq : ℕ
  pub kind : OpKind

-- the greatest number of an operation
abbrev pub max_seq : ℕ
max_seq = 2 ^ 62

-- the most bytes of a path
abbrev pub max_path : ℕ
max_path = 1024

-- ---- as text

-- sixteen lower-case hexadecimal digits
unfoldable pub author_text : ℕ → List ℕ
author_text author = encode_lower (to_be_bytes w64 author)

abbrev pub number_data : ℕ → Data
number_data n = number (unsigned n)

-- the members that say what an operation does, put into those that are there
abbrev pub kind_put : OpKind → Members → Members
kind_put (Create path) ms = put (codes "path") (string path) (put (codes "op") (string (codes "create")) ms)
kind_put (Link fnode path) ms = put (codes "path") (string path) (put (codes "op") (string (codes "link")) (put (codes "fnode") (number_data fnode) ms))
kind_put (Unlink path) ms = put (codes "path") (string path) (put (codes "op") (string (codes "unlink")) ms)
kind_put (Write fnode offset text) ms =
    put (codes "op") (string (codes "write")) (put (codes "offset") (number_data offset) (put (codes "fnode") (number_data fnode) (put (codes "data") (string text) ms)))
kind_put (Property path text) ms = put (codes "path") (string path) (put (codes "op") (string (codes "property")) (put (codes "data") (string text) ms))
kind_put Handoff ms = put (codes "op") (string (codes "handoff")) ms

-- the members of an operation between its author and its number, in the order of their names
abbrev pub members_of : OpKind → Members → Members
members_of (Create path) rest =
    member (codes "op") (string (codes "create")) (member (codes "path") (string path) rest)
members_of (Link fnode path) rest =
    member (codes "fnode") (number_data fnode) (member (codes "op") (string (codes "link")) (member (codes "path") (string path) rest))
members_of (Unlink path) rest =
    member (codes "op") (string (codes "unlink")) (member (codes "path") (string path) rest)
members_of (Write fnode offset text) rest =
    member (codes "data") (string text)
    (member (codes "fnode") (number_data fnode) (member (codes "offset") (number_data offset) (member (codes "op") (string (codes "write")) rest)))
members_of (Property path text) rest =
    member (codes "data") (string text) (member (codes "op") (string (codes "property")) (member (codes "path") (string path) rest))
members_of Handoff rest = member (codes "op") (string (codes "handoff")) rest

abbrev pub op_data : Op → Data
op_data op =
    object (member (codes "author") (string (author_text op.author)) (members_of op.kind (member (codes "seq") (number_data op.seq) no_members)))

-- the content of the operation's frame: compact JSON with its members in alphabetical order
unfoldable pub op_text : Op → List ℕ
op_text op = compact_text (op_data op)

-- ---- read back

abbrev pub text_at : List ℕ → Data → Option (List ℕ)
text_at name d = option_and_then as_str (get name d)

abbrev pub number_at : List ℕ → Data → Option ℕ
number_at name d = option_and_then as_u64 (option_and_then as_number (get name d))

abbrev pub if_path : List ℕ → Option (List ℕ)
if_path path = if nat_le (length path) max_path then Some path else None

abbrev pub path_at : Data → Option (List ℕ)
path_at d = option_and_then if_path (text_at (codes "path") d)

-- the author whose sixteen digits these are
abbrev pub author_in : Result (List ℕ) FromHexError → Option ℕ
author_in (Ok bytes) = Some (from_be_bytes w64 bytes)
author_in (Err e) = None

abbrev pub author_at : Data → Option ℕ
author_at d = option_and_then (λ text. author_in (decode_sized text 8)) (text_at (codes "author") d)

abbrev pub create_in : Data → Option OpKind
create_in d = option_map (λ path. Create path) (path_at d)

abbrev pub unlink_in : Data → Option OpKind
unlink_in d = option_map (λ path. Unlink path) (path_at d)

abbrev pub link_in : Data → Option OpKind
link_in d = option_and_then (λ fnode. option_and_then (λ path. Some (Link fnode path)) (path_at d)) (number_at (codes "fnode") d)

abbrev pub write_in : Data → Option OpKind
write_in d =
    option_and_then (λ fnode. option_and_then (λ offset. option_and_then (λ text. Some (Write fnode offset text))
    (text_at (codes "data") d)) (number_at (codes "offset") d)) (number_at (codes "fnode") d)

abbrev pub property_in : Data → Option OpKind
property_in d = option_and_then (λ path. option_and_then (λ text. Some (Property path text)) (text_at (codes "data") d)) (path_at d)

-- the kind of this name, by the members that it has
abbrev pub kind_named : List ℕ → Data → Option OpKind
kind_named name d =
    if bytes_eq name (codes "create") then create_in d
    else (if bytes_eq name (codes "link") then link_in d
    else (if bytes_eq name (codes "unlink") then unlink_in d
    else (if bytes_eq name (codes "write") then write_in d
    else (if bytes_eq name (codes "property") then property_in d
    else (if bytes_eq name (codes "handoff") then Some Handoff
    else None)))))

abbrev pub op_with : ℕ → ℕ → OpKind → Option Op
op_with author seq kind = if nat_le seq max_seq then Some (record { author = author; seq = seq; kind = kind }) else None

-- an operation by the members that it needs, whatever else is there
abbrev pub op_in : Data → Option Op
op_in d =
    option_and_then (λ author. option_and_then (λ seq. option_and_then (λ name. option_and_then (λ kind. op_with author seq kind)
    (kind_named name d)) (text_at (codes "op") d)) (number_at (codes "seq") d)) (author_at d)

abbrev pub op_if : List ℕ → Op → Option Op
op_if content op = if bytes_eq (op_text op) content then Some op else None

-- The operation whose content this is, byte by byte.
unfoldable pub op_of : List ℕ → Option Op
op_of content = option_and_then (op_if content) (option_and_then op_in (json_of content))

-- ---- which operations there are

-- the path of an operation; of a write and a handoff none
abbrev pub path_of : OpKind → List ℕ
path_of (Create path) = path
path_of (Link fnode path) = path
path_of (Unlink path) = path
path_of (Write fnode offset text) = []
path_of (Property path text) = path
path_of Handoff = []

-- its author is a number of 64 bits, and its number and its path are within their bounds
pub record IsLawful (op : Op) : Type 0 where
  pub author : op.author < 2 ^ 64
  pub number : op.seq ≤ max_seq
  pub path : length (path_of op.kind) ≤ max_path
