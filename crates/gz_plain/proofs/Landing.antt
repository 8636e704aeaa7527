-- Appends that journals answer, by their names and by their places.
use Rattle.std.proofs.Common.{◌≡◌, ℕ, zero, suc, ◌<◌, ◌≤◌, List, [], ◌∷◌, length, get_or, set, refl, ap, sym, ◌∙◌, subst, Bool, true, false, cond, arith}
use Rattle.std.specs.Str.{bytes_eq}
use Rattle.gz_label.specs.declared.entry.Attempt.{Attempt}
use Rattle.gz_label.specs.declared.entry.Entry.{Entry}
use Rattle.gz_journal.specs.JournalList.{is_landed, judged_of, plain}
use Rattle.gz_journal.specs.declared.judgement.Landed.{Landed}
use Rattle.gz_journal.specs.declared.request.Request.{Request}
use Rattle.gz_promise.specs.Journals.{Journal, with_bytes, entries_after, entries_of, entries_at, place_of, appended, appended_at, landing, landing_at, answer_in, answer_at}
use Rattle.gz_promise.specs.Names.{Distinct}
use Rattle.gz_plain.specs.Places.{names_of}
use Rattle.gz_plain.specs.Running.{AllKept}
use Rattle.gz_plain.specs.declared.shard.Shard.{Shard}
use Rattle.gz_plain.proofs.Places.{appended_is, appended_at_set, appended_at_past, distinct_stay}
use Rattle.gz_plain.proofs.Stepping.{kept_appended}

-- ---- what stands at a place

entries_first : (name : List ℕ) (j : Journal) (js : List Journal) (here : Bool) → entries_of name js ≡ entries_at (place_of name js) js
    → cond here j.entries (entries_of name js) ≡ entries_at (cond here 0 (suc (place_of name js))) (j ∷ js)
entries_first name j js true rest = refl
entries_first name j js false rest = rest

-- the entries of a name are those at its place
entries_of_is : (name : List ℕ) (js : List Journal) → entries_of name js ≡ entries_at (place_of name js) js
entries_of_is name [] = refl
entries_of_is name (j ∷ js) = entries_first name j js (bytes_eq j.name name) (entries_of_is name js)

entries_at_read : (i : ℕ) (js : List Journal) (j : Journal) → i < length js → j ≡ get_or js i j → j.entries ≡ entries_at i js
entries_at_read i [] j within is = absurd (omega (arith, within))
entries_at_read zero (k ∷ js) j within is = ap (λ (o : Journal). o.entries) is
entries_at_read (suc i) (k ∷ js) j within is = entries_at_read i js j (omega (arith, within)) is

entries_at_past : (i : ℕ) (js : List Journal) → length js ≤ i → entries_at i js ≡ []
entries_at_past i [] past = refl
entries_at_past zero (k ∷ js) past = absurd (omega (arith, past))
entries_at_past (suc i) (k ∷ js) past = entries_at_past i js (omega (arith, past))

-- what the journal at a place answers
pub answer_at_read : (i : ℕ) (r : Request) (js : List Journal) (j : Journal) → i < length js → j ≡ get_or js i j → (judged_of j.entries r).landed ≡ answer_at i r js
answer_at_read i r js j within is = ap (λ (es : List Entry). (judged_of es r).landed) (entries_at_read i js j within is)

-- and past the end, where there is none
pub answer_at_past : (i : ℕ) (r : Request) (js : List Journal) → length js ≤ i → (judged_of [] r).landed ≡ answer_at i r js
answer_at_past i r js past = ap (λ (es : List Entry). (judged_of es r).landed) (sym (entries_at_past i js past))

set_same : (i : ℕ) (js : List Journal) (j : Journal) → i < length js → j ≡ get_or js i j → set js i j ≡ js
set_same i [] j within is = absurd (omega (arith, within))
set_same zero (k ∷ js) j within is = ap (λ (o : Journal). o ∷ js) is
set_same (suc i) (k ∷ js) j within is = ap (λ (rest : List Journal). k ∷ rest) (set_same i js j (omega (arith, within)) is)

-- ---- an append at a place

landing_set : (landed : Bool) (attempt : Attempt) (i : ℕ) (bytes : List ℕ) (js : List Journal) (j : Journal) → i < length js → j ≡ get_or js i j
    → set js i (record j { entries = cond landed (with_bytes attempt bytes j.entries) j.entries }) ≡ cond landed (appended_at attempt i bytes js) js
landing_set true attempt i bytes js j within is = appended_at_set attempt i bytes js j within is
landing_set false attempt i bytes js j within is = set_same i js j within is

-- it sets what stands there
pub landing_at_set : (attempt : Attempt) (i : ℕ) (bytes : List ℕ) (js : List Journal) (j : Journal) → i < length js → j ≡ get_or js i j
    → set js i (record j { entries = entries_after attempt bytes j.entries }) ≡ landing_at attempt i bytes js
landing_at_set attempt i bytes js j within is =
    landing_set (is_landed (judged_of j.entries (plain attempt bytes)).landed) attempt i bytes js j within is
    ∙ ap (λ (es : List Entry). cond (is_landed (judged_of es (plain attempt bytes)).landed) (appended_at attempt i bytes js) js) (entries_at_read i js j within is)

both_ways : (landed : Bool) (js new : List Journal) → new ≡ js → cond landed new js ≡ js
both_ways true js new is = is
both_ways false js new is = refl

-- past the end it does nothing
pub landing_at_past : (attempt : Attempt) (i : ℕ) (bytes : List ℕ) (js : List Journal) → length js ≤ i → landing_at attempt i bytes js ≡ js
landing_at_past attempt i bytes js past =
    both_ways (is_landed (answer_at i (plain attempt bytes) js)) js (appended_at attempt i bytes js) (appended_at_past attempt i bytes js past)

-- ---- an append to the journal of a name

-- it answers as the one at its place
pub answer_is : (name : List ℕ) (r : Request) (js : List Journal) → answer_in name r js ≡ answer_at (place_of name js) r js
answer_is name r js = ap (λ (es : List Entry). (judged_of es r).landed) (entries_of_is name js)

-- where each name is there once, the journal of the name is the one at its place
pub landing_is : (attempt : Attempt) (name bytes : List ℕ) (js : List Journal) → Distinct (names_of js) → landing attempt name bytes js ≡ landing_at attempt (place_of name js) bytes js
landing_is attempt name bytes js d =
    ap (λ (l : Landed). cond (is_landed l) (appended attempt name bytes js) js) (answer_is name (plain attempt bytes) js)
    ∙ ap (λ (new : List Journal). cond (is_landed (answer_at (place_of name js) (plain attempt bytes) js)) new js) (appended_is attempt name bytes js d)

distinct_if : (landed : Bool) (attempt : Attempt) (name bytes : List ℕ) (js : List Journal) → Distinct (names_of js) → Distinct (names_of (cond landed (appended attempt name bytes js) js))
distinct_if true attempt name bytes js d = distinct_stay attempt name bytes js d
distinct_if false attempt name bytes js d = d

-- each is still named once
pub distinct_landing : (attempt : Attempt) (name bytes : List ℕ) (js : List Journal) → Distinct (names_of js) → Distinct (names_of (landing attempt name bytes js))
distinct_landing attempt name bytes js d = distinct_if (is_landed (answer_in name (plain attempt bytes) js)) attempt name bytes js d

kept_if : (landed : Bool) (attempt : Attempt) (name bytes : List ℕ) (js : List Journal) (ss : List Shard) → AllKept js ss → AllKept (cond landed (appended attempt name bytes js) js) ss
kept_if true attempt name bytes js ss k = kept_appended attempt name bytes js (appended attempt name bytes js) ss refl k
kept_if false attempt name bytes js ss k = k

-- and what is kept of the shards fits
pub kept_landing : (attempt : Attempt) (name bytes : List ℕ) (js new : List Journal) (ss : List Shard) → new ≡ landing attempt name bytes js → AllKept js ss → AllKept new ss
kept_landing attempt name bytes js new ss is k =
    subst (λ (x : List Journal). AllKept x ss) (sym is) (kept_if (is_landed (answer_in name (plain attempt bytes) js)) attempt name bytes js ss k)
