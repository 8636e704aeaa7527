-- The indexes of journals as a table.
use Rattle.std.proofs.Common.{◌≡◌, ℕ, Bool, true, false, cond, List, [], ◌∷◌, refl, sym, ap, ◌∙◌, Option, Some, unwrap_or}
use Rattle.std.specs.Map.{lookup}
use Rattle.std.specs.Str.{bytes_eq}
use Rattle.std.proofs.lemmas.Slice.Eq.{bytes_eq-Decides}
use Rattle.indexmap.specs.IndexMap.{insert_entry}
use Rattle.gz_depot.specs.Depot.{Indexes, index_of, with_index, kept}
use Rattle.gz_fragment.specs.Names.{FragmentName, name_of}
use Rattle.gz_fragment.specs.Fragments.{added}
use Rattle.gz_fragment.specs.declared.fragment.Fragment.{Fragment}

-- what is found in the table, or nothing
pub index_found : (journal : List ℕ) (is : Indexes) → index_of journal is ≡ unwrap_or (lookup (bytes_eq journal) is) []
index_found journal [] = refl
index_found journal (i ∷ is) = step (bytes_eq journal i.0) (index_found journal is) where
  step : (b : Bool) → index_of journal is ≡ unwrap_or (lookup (bytes_eq journal) is) [] → cond b i.1 (index_of journal is) ≡ unwrap_or (cond b (Some i.1) (lookup (bytes_eq journal) is)) []
  step true more = refl
  step false more = more

pub index_inserted : (journal : List ℕ) (fs : List Fragment) (is : Indexes) → insert_entry bytes_eq is journal fs ≡ with_index journal fs is
index_inserted journal fs [] = refl
index_inserted journal fs (i ∷ is) = ap (λ l. cond (bytes_eq journal i.0) ((i.0, fs) ∷ is) (i ∷ l)) (index_inserted journal fs is)

same_itself : (x : List ℕ) → bytes_eq x x ≡ true
same_itself x = (bytes_eq-Decides x x).1 refl

-- of two values that a journal takes, the later one counts
pub index_twice : (journal : List ℕ) (fs gs : List Fragment) (is : Indexes) → with_index journal gs (with_index journal fs is) ≡ with_index journal gs is
index_twice journal fs gs [] = ap (λ b. cond b ((journal, gs) ∷ []) ((journal, fs) ∷ (journal, gs) ∷ [])) (same_itself journal)
index_twice journal fs gs (i ∷ is) = step (bytes_eq journal i.0) refl (index_twice journal fs gs is) where
  step : (b : Bool) → bytes_eq journal i.0 ≡ b → with_index journal gs (with_index journal fs is) ≡ with_index journal gs is
      → with_index journal gs (cond b ((i.0, fs) ∷ is) (i ∷ with_index journal fs is)) ≡ cond b ((i.0, gs) ∷ is) (i ∷ with_index journal gs is)
  step true t more = ap (λ b. cond b ((i.0, gs) ∷ is) ((i.0, fs) ∷ with_index journal gs is)) t
  step false t more = ap (λ b. cond b ((i.0, gs) ∷ with_index journal fs is) (i ∷ with_index journal gs (with_index journal fs is))) t ∙ ap (λ l. i ∷ l) more

-- a journal that took one value, and then another
pub index_put : (journal : List ℕ) (fs gs : List Fragment) (is : Indexes) → insert_entry bytes_eq (insert_entry bytes_eq is journal fs) journal gs ≡ with_index journal gs is
index_put journal fs gs is =
    index_inserted journal gs (insert_entry bytes_eq is journal fs) ∙ ap (with_index journal gs) (index_inserted journal fs is) ∙ index_twice journal fs gs is

-- a content that the table took
pub kept_by_table : (all mid new : Indexes) (journal key : List ℕ) (name : FragmentName) (begin : ℕ) (content : List ℕ) (empty : List Fragment) (found : Option (List Fragment)) (index : List Fragment)
    → key ≡ journal → empty ≡ [] → mid ≡ insert_entry bytes_eq all key empty → found ≡ lookup (bytes_eq key) all
    → name ≡ name_of begin content → index ≡ added (record { name = name; content = content }) (unwrap_or found [])
    → new ≡ insert_entry bytes_eq mid journal index → new ≡ kept journal begin content all
kept_by_table all mid new journal key name begin content empty found index same none first old named more second =
    let table : mid ≡ insert_entry bytes_eq all journal [] = first ∙ (λ i. insert_entry bytes_eq all (same i) (none i)) in
    let before : unwrap_or found [] ≡ index_of journal all = ap (λ o. unwrap_or o []) (old ∙ ap (λ k. lookup (bytes_eq k) all) same) ∙ sym (index_found journal all) in
    let after : index ≡ added (record { name = name_of begin content; content = content }) (index_of journal all) = more ∙ (λ i. added (record { name = named i; content = content }) (before i)) in
    second ∙ (λ i. insert_entry bytes_eq (table i) journal (after i)) ∙ index_put journal [] (added (record { name = name_of begin content; content = content }) (index_of journal all)) all
