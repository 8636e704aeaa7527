-- What a player loads is what the last commit of the text left.
use Rattle.std.proofs.Common.{◌≡◌, ℕ, ◌+◌, List, [], ◌∷◌, ◌++◌, length, refl, ap, sym, ◌∙◌, Bool, true, false, cond, Option, Some, None, subst}
use Rattle.std.specs.Prelude.{option_and_then, option_map, is_some, ⊤}
use Rattle.gz_recovery.specs.Operations.{Op, op_of}
use Rattle.gz_recovery.specs.Files.{Files, Fsm, new_fsm, accepts, accepted_from, accepted, author_after, after_op, applied, numbered_on, does, fsm_from}
use Rattle.gz_recovery.proofs.Below.{seq_next}
use Rattle.gz_playback.specs.Playing.{Cut, Partial, Bad, Whole, cut_of, Reading, reads, reads_cut, reads_op, records_of, Player, plays, plays_cut, plays_op, plays_fsm}
use Rattle.gz_store.specs.Stores.{Loaded, NoState, load}
use Rattle.gz_store.specs.Commits.{commits_from, commit_here, commit_at, is_commit, last_loaded, state_of, keeps_here, KeepsState, played, LoadsTheLastCommit}

abbrev IsThere : {A : Type 0} → Option A → Type 0
IsThere None = ⊥
IsThere (Some x) = ⊤

some_none : {A : Type 0} (x : A) → Some x ≡ None → ⊥
some_none x e = subst IsThere e tt

none_some : {A : Type 0} (x : A) → None ≡ Some x → ⊥
none_some x e = some_none x (sym e)

abbrev inside : {A : Type 0} → A → Option A → A
inside d None = d
inside d (Some x) = x

same_inside : {A : Type 0} (x y : A) → Some x ≡ Some y → x ≡ y
same_inside x y e = ap (λ o. inside x o) e

-- ---- operations of a log, one after another

abbrev pub after_ops : Fsm → List Op → Option Fsm
after_ops s [] = Some s
after_ops s (op ∷ ops) = option_and_then (λ t. after_ops t ops) (after_op op s)

after_push : (ops : List Op) (op : Op) (s : Fsm) → after_ops s (ops ++ op ∷ []) ≡ option_and_then (λ t. after_op op t) (after_ops s ops)
after_push [] op s = by (after_op op s)
  where
    by : (o : Option Fsm) → option_and_then (λ t. Some t) o ≡ o
    by None = refl
    by (Some t) = refl
after_push (first ∷ ops) op s = by (after_op first s) (λ t. after_push ops op t)
  where
    by : (o : Option Fsm) → ((t : Fsm) → after_ops t (ops ++ op ∷ []) ≡ option_and_then (λ u. after_op op u) (after_ops t ops))
        → option_and_then (λ t. after_ops t (ops ++ op ∷ [])) o ≡ option_and_then (λ u. after_op op u) (option_and_then (λ t. after_ops t ops) o)
    by None ih = refl
    by (Some t) ih = ih t

-- what isn't accepted is passed over
pub after_accepted : (ops : List Op) (s : Fsm) → after_ops s ops ≡ fsm_from s (accepted_from s.next s.author ops)
after_accepted [] s = refl
after_accepted (op ∷ ops) s = by (accepts s op) refl (λ t. after_accepted ops t)
  where
    on : (o : Option Files) → op.seq ≡ s.next → ((t : Fsm) → after_ops t ops ≡ fsm_from t (accepted_from t.next t.author ops))
        → option_and_then (λ t. after_ops t ops) (option_map (numbered_on op s) o)
        ≡ option_and_then (λ t. fsm_from t (accepted_from (s.next + 1) (author_after s.author op) ops)) (option_map (numbered_on op s) o)
    on None seq ih = refl
    on (Some f) seq ih =
        ih (numbered_on op s f) ∙ ap (λ (n : ℕ). fsm_from (numbered_on op s f) (accepted_from (n + 1) (author_after s.author op) ops)) seq

    by : (b : Bool) → accepts s op ≡ b → ((t : Fsm) → after_ops t ops ≡ fsm_from t (accepted_from t.next t.author ops))
        → option_and_then (λ t. after_ops t ops) (cond b (applied op s) (Some s))
        ≡ fsm_from s (cond b (op ∷ accepted_from (s.next + 1) (author_after s.author op) ops) (accepted_from s.next s.author ops))
    by true taken ih = on (does op.seq op.kind s.files) (seq_next s op taken) ih
    by false taken ih = ih s

-- ---- a player has taken the records of the text

abbrev reading : List ℕ → List Op → Reading
reading left ops = record { left = left; ops = ops; is_bad = false }

abbrev playing : ℕ → List ℕ → Fsm → Player
playing begin left fsm = record { begin = begin; left = left; fsm = fsm; bad = None }

-- behind a bad frame nothing is played
stays : (bs : List ℕ) (p : Player) → is_some p.bad ≡ true → plays p bs ≡ p
stays [] p bad = refl
stays (b ∷ bs) p bad = ap (λ (q : Player). plays q bs) (rw bad refl) ∙ stays bs p bad

never : (bs : List ℕ) (p : Player) → is_some p.bad ≡ true → (plays p bs).bad ≡ None → ⊥
never bs p bad none = by (ap (λ (o : Option ℕ). is_some o) (sym (ap (λ (q : Player). q.bad) (stays bs p bad)) ∙ none))
  where
    IsFalse : Bool → Type 0
    IsFalse true = ⊥
    IsFalse false = ⊤

    by : is_some p.bad ≡ false → ⊥
    by e = subst IsFalse (sym (sym bad ∙ e)) tt

taken : (bs : List ℕ) (left : List ℕ) (ops : List Op) (begin : ℕ) (s : Fsm) → after_ops new_fsm ops ≡ Some s → (plays (playing begin left s) bs).bad ≡ None
    → after_ops new_fsm (reads (reading left ops) bs).ops ≡ Some (plays (playing begin left s) bs).fsm
taken [] left ops begin s same none = same
taken (b ∷ bs) left ops begin s same none = by_cut (cut_of (left ++ b ∷ [])) (λ l os n t e f. taken bs l os n t e f) none
  where
    Rest : Type 0
    Rest = (l : List ℕ) (os : List Op) (n : ℕ) (t : Fsm) → after_ops new_fsm os ≡ Some t → (plays (playing n l t) bs).bad ≡ None
        → after_ops new_fsm (reads (reading l os) bs).ops ≡ Some (plays (playing n l t) bs).fsm

    more : List ℕ
    more = left ++ b ∷ []

    by_fsm : (op : Op) (o : Option Fsm) → after_op op s ≡ o → Rest → (plays (plays_fsm o (playing begin more s)) bs).bad ≡ None
        → after_ops new_fsm (reads (reading [] (ops ++ op ∷ [])) bs).ops ≡ Some (plays (plays_fsm o (playing begin more s)) bs).fsm
    by_fsm op None e ih f = absurd (never bs (plays_fsm None (playing begin more s)) refl f)
    by_fsm op (Some t) e ih f = ih [] (ops ++ op ∷ []) (begin + length more) t (after_push ops op new_fsm ∙ ap (λ (o : Option Fsm). option_and_then (λ u. after_op op u) o) same ∙ e) f

    by_op : (o : Option Op) → Rest → (plays (plays_op o (playing begin more s)) bs).bad ≡ None
        → after_ops new_fsm (reads (reads_op o (reading left ops)) bs).ops ≡ Some (plays (plays_op o (playing begin more s)) bs).fsm
    by_op None ih f = absurd (never bs (plays_op None (playing begin more s)) refl f)
    by_op (Some op) ih f = by_fsm op (after_op op s) refl ih f

    by_cut : (c : Cut) → Rest → (plays (plays_cut c (playing begin more s)) bs).bad ≡ None
        → after_ops new_fsm (reads (reads_cut c more (reading left ops)) bs).ops ≡ Some (plays (plays_cut c (playing begin more s)) bs).fsm
    by_cut Partial ih f = ih more ops begin s same f
    by_cut Bad ih f = absurd (never bs (plays_cut Bad (playing begin more s)) refl f)
    by_cut (Whole content) ih f = by_op (op_of content) ih f

-- a player that met no bad frame has the machine of the whole text
pub played_is : (text : List ℕ) → (played text).bad ≡ None → fsm_from new_fsm (accepted (records_of text)) ≡ Some (played text).fsm
played_is text none = sym (after_accepted (records_of text) new_fsm) ∙ taken text [] [] 0 new_fsm refl none

-- ---- the last commit

last_is : (ops : List Op) (s t : Fsm) (before : Loaded) → load s ≡ before → KeepsState ops (Some s) → fsm_from s ops ≡ Some t
    → load t ≡ last_loaded before (commits_from ops (Some s))
last_is [] s t before same keeps end = ap (λ (u : Fsm). load u) (sym (same_inside s t end)) ∙ same
last_is (op ∷ ops) s t before same keeps end = by (applied op s) keeps.0 keeps.1 end (λ u c e k f. last_is ops u t c e k f)
  where
    by : (o : Option Fsm) → keeps_here op s o → KeepsState ops o → option_and_then (λ u. fsm_from u ops) o ≡ Some t
        → ((u : Fsm) (c : Loaded) → load u ≡ c → KeepsState ops (Some u) → fsm_from u ops ≡ Some t → load t ≡ last_loaded c (commits_from ops (Some u)))
        → load t ≡ last_loaded before (commit_here op o ++ commits_from ops o)
    by None here rest f ih = absurd (none_some t f)
    by (Some u) here rest f ih = on (is_commit op.kind) refl
      where
        on : (b : Bool) → is_commit op.kind ≡ b → load t ≡ last_loaded before (commit_at b u ++ commits_from ops (Some u))
        on true e = ih u (load u) refl rest f
        on false e = ih u before (here e ∙ same) rest f

pub loads_the_last_commit : LoadsTheLastCommit
loads_the_last_commit text none keeps =
    let last = last_is (accepted (records_of text)) new_fsm (played text).fsm NoState refl keeps (played_is text none) in
    (last, ap (λ (l : Loaded). state_of l) last)
