-- Labels and journals that are read are valid.
use Rattle.std.proofs.Common.{◌≡◌, ℕ, ◌≤◌, ◌&&◌, List, [], ◌∷◌, length, refl, sym, ap, subst, ◌∙◌, cond, Bool, true, false, nat_le, Result, Ok, Err, Option, Some, None, arith}
use Rattle.std.specs.Prelude.{codes}
use Rattle.std.proofs.lemmas.Grind.{common_steps}
use Rattle.serde_json.specs.Data.{Data}
use Rattle.serde_json.specs.Find.{get, as_object}
use Rattle.gz_model.specs.Steps.{◌>>=◌}
use Rattle.gz_label.specs.Labels.{is_label, is_label_set, put_label, with_label}
use Rattle.gz_label.specs.Items.{max_labels, limited}
use Rattle.gz_label.specs.declared.label.Label.{Label}
use Rattle.gz_label.specs.declared.name.LabelError.{LabelError}
use Rattle.gz_label.specs.declared.name.LabelError.TheVariants as cause
use Rattle.gz_label.proofs.Sets.{is_label_set-put}
use Rattle.gz_fields.specs.Paths.{below}
use Rattle.gz_fields.specs.Names.{is_journal_name}
use Rattle.gz_fields.specs.Form.{is_between, found, has_only, name_at, number_or}
use Rattle.gz_fields.proofs.Readable.{step, same_ok, name_good, number_or_good}
use Rattle.gz_spec.specs.Records.{JournalSpec}
use Rattle.gz_spec.specs.Labels.{all_labels, fitting, put_each, labels_in, labels_if, labels_at}
use Rattle.gz_spec.specs.Journals.{fragment_members, codec_if, fragment_in, fragment_if, fragment_at, journal_members, journal_with, journal_at, default_fragment}
use Rattle.gz_spec.specs.Valid.{is_journal}

-- ---- labels

fitting_ok : {A : Type 0} (path : List ℕ) (r : Result A LabelError) (a : A) → fitting path r ≡ Ok a → r ≡ Ok a
fitting_ok path (Ok b) a is = ap (λ x. Ok x) (same_ok b a is)
fitting_ok path (Err (cause.BadName at)) a is = absurd (cc)
fitting_ok path (Err cause.TooMany) a is = absurd (cc)
fitting_ok path (Err cause.NoMemory) a is = absurd (cc)

limited_good : (few : Bool) (l : Label) (set more : List Label) → few ≡ nat_le (length (put_label l set)) max_labels → is_label l ≡ true → is_label_set set ≡ true
    → (let r : Result (List Label) LabelError = cond few (Ok (put_label l set)) (Err cause.TooMany) in r ≡ Ok more) → is_label_set more ≡ true
limited_good true l set more few good valid is =
    let e : put_label l set ≡ more = cc in
    let short : length (put_label l set) ≤ 64 = grind (arith, common_steps) in
    ap is_label_set (sym e) ∙ is_label_set-put l set good valid short
limited_good false l set more few good valid is = absurd (cc)

with_label_good : (good : Bool) (l : Label) (set more : List Label) → is_label l ≡ good → is_label_set set ≡ true
    → (let r : Result (List Label) LabelError = cond good (limited (put_label l set)) (Err (cause.BadName 0)) in r ≡ Ok more) → is_label_set more ≡ true
with_label_good true l set more good valid is = limited_good (nat_le (length (put_label l set)) max_labels) l set more refl good valid is
with_label_good false l set more good valid is = absurd (cc)

put_good : (l : Label) (set more : List Label) → is_label_set set ≡ true → with_label l set ≡ Ok more → is_label_set more ≡ true
unfolding with_label
put_good l set more valid is = with_label_good (is_label l) l set more refl valid is

put_each_good : (path : List ℕ) (ls set out : List Label) → is_label_set set ≡ true → put_each path set ls ≡ Ok out → is_label_set out ≡ true
put_each_good path [] set out valid is = ap is_label_set (sym (same_ok set out is)) ∙ valid
put_each_good path (l ∷ ls) set out valid is =
    let s = step (fitting path (with_label l set)) (λ more. put_each path more ls) out is in
    put_each_good path ls s.0 out (put_good l set s.0 valid (fitting_ok path (with_label l set) s.0 s.1)) s.2

no_labels : is_label_set [] ≡ true
unfolding is_label_set
no_labels = refl

labels_in_good : (path : List ℕ) (d : Data) (ls : List Label) → labels_in path d ≡ Ok ls → is_label_set ls ≡ true
unfolding labels_in
labels_in_good path d ls is =
    let s = step (found path (as_object d)) (λ ms. all_labels path ms >>= λ labels. put_each path [] labels) ls is in
    let t = step (all_labels path s.0) (λ labels. put_each path [] labels) ls s.2 in
    put_each_good path t.0 [] ls no_labels t.2

pub labels_good : (path : List ℕ) (o : Option Data) (ls : List Label) → labels_if path o ≡ Ok ls → is_label_set ls ≡ true
labels_good path None ls is = ap is_label_set (sym (same_ok [] ls is)) ∙ no_labels
labels_good path (Some d) ls is = labels_in_good path d ls is

-- ---- journals

fragment_in_good : (path : List ℕ) (d : Data) (n : ℕ) → fragment_in path d ≡ Ok n → is_between 1 1073741824 n ≡ true
unfolding fragment_in
fragment_in_good path d n is =
    let codec = codec_if (below path (codes "compression_codec")) (get (codes "compression_codec") d) in
    let bytes = number_or default_fragment 1 1073741824 path (codes "length") d in
    let s = step (has_only path fragment_members d) (λ _. bytes >>= λ b. codec >>= λ _. Ok b) n is in
    let t = step bytes (λ b. codec >>= λ _. Ok b) n s.2 in
    let u = step codec (λ _. Ok t.0) n t.2 in
    ap (is_between 1 1073741824) (sym (same_ok t.0 n u.2)) ∙ number_or_good default_fragment 1 1073741824 (below path (codes "length")) (get (codes "length") d) t.0 refl t.1

fragment_good : (path : List ℕ) (o : Option Data) (n : ℕ) → fragment_if path o ≡ Ok n → is_between 1 1073741824 n ≡ true
fragment_good path None n is = ap (is_between 1 1073741824) (sym (same_ok default_fragment n is)) ∙ refl
fragment_good path (Some d) n is = fragment_in_good path d n is

four : (a b c d : Bool) → a ≡ true → b ≡ true → c ≡ true → d ≡ true → (a && (b && (c && d))) ≡ true
four a b c d e f g h = rw (e, f, g, h) refl

abbrev journal_from : List ℕ → ℕ → List Label → ℕ → JournalSpec
journal_from name replication labels bytes = record { name = name; replication = replication; labels = labels; fragment_length = bytes }

-- the journal that was read has the name that was given, and all that follows it is good
pub journal_with_good : (path name : List ℕ) (d : Data) (j : JournalSpec) → is_journal_name name ≡ true → journal_with path name d ≡ Ok j → (is_journal j ≡ true) × (j.name ≡ name)
unfolding journal_with
journal_with_good path name d j good is =
    let r = step (number_or 1 1 5 path (codes "replication") d) (λ a. labels_at path d >>= λ b. fragment_at path d >>= λ c. Ok (journal_from name a b c)) j is in
    let l = step (labels_at path d) (λ b. fragment_at path d >>= λ c. Ok (journal_from name r.0 b c)) j r.2 in
    let f = step (fragment_at path d) (λ c. Ok (journal_from name r.0 l.0 c)) j l.2 in
    let P : JournalSpec → Type 0 = λ k. (is_journal k ≡ true) × (k.name ≡ name) in
    subst P (same_ok (journal_from name r.0 l.0 f.0) j f.2) (
      four (is_journal_name name) (is_between 1 5 r.0) (is_label_set l.0) (is_between 1 1073741824 f.0) good
          (number_or_good 1 1 5 (below path (codes "replication")) (get (codes "replication") d) r.0 refl r.1)
          (labels_good (below path (codes "labels")) (get (codes "labels") d) l.0 l.1)
          (fragment_good (below path (codes "fragment")) (get (codes "fragment") d) f.0 f.1),
      refl,
    )

pub journal_at_good : (path : List ℕ) (d : Data) (j : JournalSpec) → journal_at path d ≡ Ok j → is_journal j ≡ true
unfolding journal_at
journal_at_good path d j is =
    let h = step (has_only path journal_members d) (λ _. name_at is_journal_name path (codes "name") d >>= λ name. journal_with path name d) j is in
    let n = step (name_at is_journal_name path (codes "name") d) (λ name. journal_with path name d) j h.2 in
    (journal_with_good path n.0 d j (name_good is_journal_name path (codes "name") n.0 d n.1) n.2).0

-- ---- what is made of what was read

pub journal_made : (path name : List ℕ) (d : Data) (replication : ℕ) (labels : List Label) (bytes : ℕ) → is_journal_name name ≡ true
    → number_or 1 1 5 path (codes "replication") d ≡ Ok replication → labels_at path d ≡ Ok labels → fragment_at path d ≡ Ok bytes
    → is_journal (journal_from name replication labels bytes) ≡ true
unfolding journal_with
journal_made path name d replication labels bytes good r l f =
    (journal_with_good path name d (journal_from name replication labels bytes) good (rw (r, l, f) refl)).0
