-- Tables of messages: rows with distinct tags.
use Rattle.std.specs.Prelude.{◌≡◌, ◌⊎◌, ℕ, ◌==◌, ◌&&◌, List, [], ◌∷◌, Bool, true, not, Option, Some, None, if◌then◌else◌}
use Rattle.gz_wire.specs.declared.kind.Kind.{Kind}
use Rattle.gz_wire.specs.declared.kind.Kind.TheVariants.{KsTxn, KsTxnOk, KsTxnNo, KsSince, KsSinceDone, KsChange, KsGrant, KsGranted, Promise, Promised, Adopt, Adopted, Refuse, Replicate, Held, Head, Append, AppendDone, Read, ReadDone, StorePut, StoreDone, StoreGet, StoreGot, StoreList, StoreNames}
use Rattle.gz_spelling.specs.declared.table.Row.{Row}
use Rattle.gz_spelling.specs.Messages.{tag_of}

-- no row has the tag
abbrev pub lacks : ℕ → List Row → Bool
lacks tag [] = true
lacks tag (r ∷ rs) = not (r.tag == tag) && lacks tag rs

-- no two rows have one tag
abbrev pub distinct : List Row → Bool
distinct [] = true
distinct (r ∷ rs) = lacks r.tag rs && distinct rs

-- each row has the tag of its kind
abbrev pub has_tags : List Row → Bool
has_tags [] = true
has_tags (r ∷ rs) = (r.tag == tag_of r.kind) && has_tags rs

-- one of the rows is of the kind
abbrev pub HasKind : Kind → List Row → Type 0
HasKind k [] = ⊥
HasKind k (r ∷ rs) = (r.kind ≡ k) ⊎ HasKind k rs

-- the kind of the first row with the tag
unfoldable pub kind_tagged : ℕ → List Row → Option Kind
kind_tagged tag [] = None
kind_tagged tag (r ∷ rs) = if r.tag == tag then Some r.kind else kind_tagged tag rs

-- the rows of all messages
unfoldable pub every_row : List Row
every_row = record { tag = 1; kind = KsTxn } ∷ record { tag = 2; kind = KsTxnOk } ∷ record { tag = 3; kind = KsTxnNo } ∷ record { tag = 4; kind = KsSince } ∷ record { tag = 5; kind = KsSinceDone } ∷ record { tag = 6; kind = KsChange } ∷ record { tag = 7; kind = KsGrant } ∷ record { tag = 8; kind = KsGranted } ∷ record { tag = 9; kind = Promise } ∷ record { tag = 10; kind = Promised } ∷ record { tag = 11; kind = Adopt } ∷ record { tag = 12; kind = Adopted } ∷ record { tag = 13; kind = Refuse } ∷ record { tag = 14; kind = Replicate } ∷ record { tag = 15; kind = Held } ∷ record { tag = 16; kind = Head } ∷ record { tag = 17; kind = Append } ∷ record { tag = 18; kind = AppendDone } ∷ record { tag = 19; kind = Read } ∷ record { tag = 20; kind = ReadDone } ∷ record { tag = 21; kind = StorePut } ∷ record { tag = 22; kind = StoreDone } ∷ record { tag = 23; kind = StoreGet } ∷ record { tag = 24; kind = StoreGot } ∷ record { tag = 25; kind = StoreList } ∷ record { tag = 26; kind = StoreNames } ∷ []
