-- What journals that are added leave as it is.
use Rattle.std.proofs.Common.{◌≡◌, ℕ, suc, ◌≤◌, ◌^◌, List, [], ◌∷◌, ◌++◌, length, map, refl, ap, sym, ◌∙◌, subst, Bool, true, false, cond, ◌||◌}
use Rattle.std.proofs.lemmas.List.{append-nil}
use Rattle.std.specs.Str.{bytes_eq}
use Rattle.gz_frame.specs.Messages.{Message}
use Rattle.gz_promise.specs.Journals.{Journal, is_journal, place_of, text_in, text_of}
use Rattle.gz_plain.specs.Places.{ArePlaced}
use Rattle.gz_plain.specs.Readers.{AreRead, IsRead, text_for}
use Rattle.gz_plain.specs.Running.{AllKept, IsKept, IsLinked, journals_of}
use Rattle.gz_plain.specs.Runs.{ArePresent, all_empty, with_journals}
use Rattle.gz_plain.specs.Seen.{name_of, shard_of, source_of}
use Rattle.gz_plain.specs.Shards as shards
use Rattle.gz_plain.specs.Shards.{last_offsets}
use Rattle.gz_promise.specs.Sources.{froms_of}
use Rattle.gz_plain.specs.declared.reader.Reader.{Reader}
use Rattle.gz_plain.specs.declared.shard.Shard.{Shard}
use Rattle.gz_plain.specs.declared.writer.Writer.{Writer}
use Rattle.gz_plain.proofs.Longer.{Longer}
use Rattle.gz_plain.proofs.Running.{taken_longer}
use Rattle.gz_plain.proofs.Takes.{all_upto_later, order_later}

-- ---- journals

no_text : (name : List ℕ) (here : Bool) (rest : List ℕ) → rest ≡ [] → cond here [] rest ≡ []
no_text name true rest none = refl
no_text name false rest none = none

text_empty : (name : List ℕ) (names : List (List ℕ)) → text_of name (all_empty names) ≡ []
text_empty name [] = refl
text_empty name (n ∷ names) = no_text name (bytes_eq n name) (text_of name (all_empty names)) (text_empty name names)

-- each text stays, since that of a journal that isn't there is empty as that of a new one
pub text_added : (name : List ℕ) (names : List (List ℕ)) (js : List Journal) → text_of name (with_journals names js) ≡ text_of name js
text_added name names [] = text_empty name names
text_added name names (j ∷ js) = ap (λ (rest : List ℕ). cond (bytes_eq j.name name) (text_in j) rest) (text_added name names js)

pub longer_added : (names : List (List ℕ)) (js : List Journal) → Longer js (with_journals names js)
longer_added names js name = ([], append-nil (text_of name js) ∙ sym (text_added name names js))

place_if : (here : Bool) (rest new : ℕ) (is_there : Bool) → (here || is_there) ≡ true → (is_there ≡ true → new ≡ rest) → cond here 0 (suc new) ≡ cond here 0 (suc rest)
place_if true rest new is_there is same = refl
place_if false rest new is_there is same = ap (λ (n : ℕ). suc n) (same is)

-- a journal that is there keeps its place
pub place_added : (name : List ℕ) (names : List (List ℕ)) (js : List Journal) → is_journal name js ≡ true → place_of name (with_journals names js) ≡ place_of name js
place_added name names [] is = cc
place_added name names (j ∷ js) is =
    place_if (bytes_eq j.name name) (place_of name js) (place_of name (with_journals names js)) (is_journal name js) is (λ there. place_added name names js there)

journal_if : (here is_there new : Bool) → (here || is_there) ≡ true → (is_there ≡ true → new ≡ true) → (here || new) ≡ true
journal_if true is_there new is more = refl
journal_if false is_there new is more = more is

-- and is still there
pub journal_added : (name : List ℕ) (names : List (List ℕ)) (js : List Journal) → is_journal name js ≡ true → is_journal name (with_journals names js) ≡ true
journal_added name names [] is = cc
journal_added name names (j ∷ js) is =
    journal_if (bytes_eq j.name name) (is_journal name js) (is_journal name (with_journals names js)) is (λ there. journal_added name names js there)

pub present_added : (ns names : List (List ℕ)) (js : List Journal) → ArePresent ns js → ArePresent ns (with_journals names js)
present_added [] names js present = tt
present_added (n ∷ ns) names js present = (journal_added n names js present.0, present_added ns names js present.1)

-- ---- what is kept of shards

read_added : (names : List (List ℕ)) (js : List Journal) (rs : List Reader) → ArePresent (journals_of (map source_of rs)) js → AreRead js rs → AreRead (with_journals names js) rs
read_added names js [] present read = tt
read_added names js (r ∷ rs) present read = (
  (
    read.0.0,
    read.0.1 ∙ sym (place_added r.journal names js present.0),
    subst (λ (text : List ℕ). IsRead r text) (sym (text_added r.journal names js)) read.0.2,
  ),
  read_added names js rs present.1 read.1,
)

placed_added : (names : List (List ℕ)) (js : List Journal) (ws : List Writer) → ArePresent (map name_of ws) js → ArePlaced js ws → ArePlaced (with_journals names js) ws
placed_added names js [] present placed = tt
placed_added names js (w ∷ ws) present placed = (placed.0 ∙ sym (place_added w.journal names js present.0), placed_added names js ws present.1 placed.1)

kept_added : (names : List (List ℕ)) (js : List Journal) (s : Shard) → IsKept js s → IsKept (with_journals names js) s
kept_added names js s k =
    let longer : Longer js (with_journals names js) = longer_added names js in
    record {
      readers = read_added names js s.readers k.linked.0 k.readers;
      taken = taken_longer js (with_journals names js) (last_offsets (shard_of s)) s.readers longer k.readers k.taken;
      upto = all_upto_later js (with_journals names js) s.commits.items (shard_of s).sources longer k.upto;
      writers = placed_added names js s.writers.items k.linked.1 k.writers;
      linked = (present_added (journals_of (shard_of s).sources) names js k.linked.0, present_added (shard_of s).outputs names js k.linked.1);
      count = k.count ∙ ap (λ (ms : List Message). length ms) (sym (order_later js (with_journals names js) (froms_of (shard_of s).sources) s.commits.items (shard_of s).sources longer k.upto));
    }

pub all_kept_added : (names : List (List ℕ)) (js : List Journal) (ss : List Shard) → AllKept js ss → AllKept (with_journals names js) ss
all_kept_added names js [] k = tt
all_kept_added names js (s ∷ ss) k = (kept_added names js s k.0, all_kept_added names js ss k.1)
