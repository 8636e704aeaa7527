-- Lists that are read, printed or joined one after another.
use Rattle.std.proofs.Common.{◌≡◌, ℕ, List, [], ◌∷◌, ◌++◌, refl, ap, sym, ◌∙◌, append_assoc, Option, Some, None, nat_cmp, Result, Ok, Err}
use Rattle.std.specs.Prelude.{option_map}
use Rattle.std.specs.BTreeMap.{insert_entry}
use Rattle.std.specs.Cmp.Lexicographic.{slice_cmp}
use Rattle.gz_frame.specs.Frame.{Fails}
use Rattle.gz_frame.specs.declared.frame.FrameError.{FrameError}
use Rattle.gz_frame.specs.declared.frame.FrameError.TheVariants.{NeedMore, BadMagic, TooLong, NoMemory}
use Rattle.gz_store.specs.Stores.{map_with}
use Rattle.gz_store.specs.Commits.{joined}

pub none_before : {A : Type 0} (o : Option (List A)) → option_map (λ xs. [] ++ xs) o ≡ o
none_before None = refl
none_before (Some xs) = refl

pub one_more : {A : Type 0} (done : List A) (x : A) (o : Option (List A)) → option_map (λ xs. (done ++ x ∷ []) ++ xs) o ≡ option_map (λ xs. done ++ xs) (option_map (λ xs. x ∷ xs) o)
one_more done x None = refl
one_more done x (Some xs) = ap (λ ys. Some ys) (append_assoc done (x ∷ []) xs)

pub one_put : {X : Type 0} (entries : List (List ℕ × X)) (k : List ℕ) (x : X) (o : Option (List (List ℕ × X))) →
    option_map (λ xs. map_with (insert_entry (slice_cmp nat_cmp) entries k x) xs) o ≡ option_map (λ xs. map_with entries xs) (option_map (λ xs. (k, x) ∷ xs) o)
one_put entries k x None = refl
one_put entries k x (Some xs) = refl

pub none_joined : (r : Result (List ℕ) FrameError) → joined (Ok []) r ≡ r
none_joined (Ok bytes) = refl
none_joined (Err e) = refl

pub one_joined : (front bytes : List ℕ) (r : Result (List ℕ) FrameError) → joined (Ok (front ++ bytes)) r ≡ joined (Ok front) (joined (Ok bytes) r)
one_joined front bytes (Ok back) = ap (λ bs. Ok bs) (append_assoc front bytes back)
one_joined front bytes (Err e) = refl

-- where one fails, so does the whole
pub joined_fails : (e : FrameError) (front : List ℕ) (one more all : Result (List ℕ) FrameError) → Fails e one → joined (Ok front) (joined one more) ≡ all → Fails e all
joined_fails NeedMore front one more all h is = sym is ∙ ap (λ (r : Result (List ℕ) FrameError). joined (Ok front) (joined r more)) h
joined_fails (BadMagic at) front one more all h is = sym is ∙ ap (λ (r : Result (List ℕ) FrameError). joined (Ok front) (joined r more)) h
joined_fails TooLong front one more all h is = sym is ∙ ap (λ (r : Result (List ℕ) FrameError). joined (Ok front) (joined r more)) h
joined_fails NoMemory front one more all h is = tt
