-- Each attempt lands at most once. An epoch's list changes only where its primary puts an entry, or takes the image that
-- it has chosen; and every spool is a prefix of such a list, has one of them with a put entry more, or is what the store
-- has, with a reset. So where no attempt is put twice none stands twice in such a list, nor in the journal.
use Rattle.std.proofs.Common.{◌≡◌, ℕ, ◌+◌, ◌<◌, ◌≤◌, List, [], ◌∷◌, ◌++◌, length, take, refl, ap, sym, ◌∙◌, arith, Bool, true, false, Option, Some, None, eqb, subst, ◌⊎◌, inl, inr}
use Rattle.std.specs.Prelude.{nat_lt, not, slice_get, slice_set, slice_index_or, if◌then◌else◌, ◌&&◌, ◌==◌, suc, zero}
use Rattle.std.specs.List.{remove}
use Rattle.std.proofs.lemmas.Bool.{ltb-true, eqb-true, cond_both, and_parts, and_from, cases_eq, cases_lt}
use Rattle.std.proofs.lemmas.List.{get_or-set_same, get_or-set_other, take-append-le, take_all, append_assoc}
use Rattle.gz_label.specs.declared.entry.Entry.{Entry}
use Rattle.gz_journal.specs.declared.request.Request.{Request}
use Rattle.gz_lineage.specs.Lists
use Rattle.gz_lineage.specs.Lists.{In, Distinct}
use Rattle.gz_lineage.specs.Prefix.{IsPrefix}
use Rattle.gz_lineage.specs.Marks.{Mark, Reset, Added, IsLanded, end_behind, entry_behind}
use Rattle.gz_lineage.specs.Nodes.{Route, Image, Report, Part, Node, Message, Letter, Outcome, Closed, Opening, Adopting, Syncing, Open, Changed, Promise, Promised, Adopt, Adopted, Txn, TxnOk, TxnNo, Append, Replicate, Held, Head, Names}
use Rattle.gz_lineage.specs.Rules
use Rattle.gz_lineage.specs.Rules.{image_of}
use Rattle.gz_lineage.specs.World
use Rattle.gz_lineage.specs.World.{World as Worlds, Moved, Event, Converge, Crash, Write, Deliver, Drop, Flush, Repeat, Renew, Resend, Give, node_at, fresh}
use Rattle.gz_lineage.specs.Handover.{HandoverThroughout}
use Rattle.gz_lineage.specs.Attempts.{PutsEachOnce, LandsEachOnce, LandsOf, attempts, puts, requests_put, put_of, put_if, put_by}
use Rattle.gz_lineage.proofs.Prefixes.{pre_take_of, pre_next}
use Rattle.gz_lineage.proofs.Listed.{Slot, Slots, slots_map, slots_fill, each_in, in_at, in_append_left, in_last}
use Rattle.gz_lineage.proofs.Facts.{Copy, ReportOk, NamesOk, Told, Global, PartOk, NodeOk, MessageOk, LetterOk}
use Rattle.gz_lineage.proofs.History.{Keys, Ghost}
use Rattle.gz_lineage.proofs.Primary.{with_head_spool}
use Rattle.gz_lineage.proofs.Opening.{adopting_spool}
use Rattle.gz_lineage.specs.Safety.{IsBest}
use Rattle.gz_lineage.proofs.Choice.{best_is}
use Rattle.gz_lineage.proofs.Invariant.{Inv, Went}
use Rattle.gz_lineage.proofs.Run.{event_ok, begins, begins_empty}

-- ---- members of lists, by place

get_take : (n k : ℕ) (xs : List Mark) (x : Mark) → slice_get (take n xs) k ≡ Some x → slice_get xs k ≡ Some x
get_take zero k xs x e = cc
get_take (suc n) k [] x e = cc
get_take (suc n) zero (y ∷ ys) x e = e
get_take (suc n) (suc k) (y ∷ ys) x e = get_take n k ys x e

get_prefix : (k : ℕ) (xs ys : List Mark) (x : Mark) → IsPrefix xs ys → slice_get xs k ≡ Some x → slice_get ys k ≡ Some x
get_prefix k xs ys x p e = get_take (length xs) k ys x (subst (λ z. slice_get z k ≡ Some x) (sym p.prefix) e)

get_less : (k : ℕ) (xs : List Mark) (x : Mark) → slice_get xs k ≡ Some x → k < length xs
get_less k [] x e = cc
get_less zero (y ∷ ys) x e = omega arith
get_less (suc k) (y ∷ ys) x e = omega (arith, get_less k ys x e)

-- it was there, or it is the one that was added
get_push : (k : ℕ) (xs : List Mark) (y x : Mark) → slice_get (xs ++ y ∷ []) k ≡ Some x → (slice_get xs k ≡ Some x) ⊎ ((k ≡ length xs) × (y ≡ x))
get_push zero [] y x e = inr (refl, cc)
get_push (suc k) [] y x e = cc
get_push zero (z ∷ zs) y x e = inl e
get_push (suc k) (z ∷ zs) y x e = elim (get_push k zs y x e) [ inl a ↦ inl a | inr a ↦ inr (omega (arith, a.0), a.1) ]

distinct_left : {A : Type 0} (xs ys : List A) → Distinct (xs ++ ys) → Distinct xs
distinct_left [] ys d = tt
distinct_left (x ∷ xs) ys d = ((λ i. d.0 (in_append_left xs ys x i)), distinct_left xs ys d.1)

-- the last one is none of those before it
distinct_last : {A : Type 0} (xs : List A) (x : A) → Distinct (xs ++ x ∷ []) → In x xs → ⊥
distinct_last [] x d i = absurd i
distinct_last (y ∷ xs) x d i = elim i [
  | inl e ↦ d.0 (subst (λ z. In z (xs ++ x ∷ [])) e (in_last xs x))
  | inr j ↦ distinct_last xs x d.1 j
]

attempts_join : (rs qs : List Request) → attempts (rs ++ qs) ≡ attempts rs ++ attempts qs
attempts_join [] qs = refl
attempts_join (r ∷ rs) qs = ap (λ l. r.attempt ∷ l) (attempts_join rs qs)

attempt_in : (rs : List Request) (r : Request) → In r rs → In r.attempt (attempts rs)
attempt_in [] r i = absurd i
attempt_in (q ∷ rs) r i = elim i [ inl e ↦ inl (ap (λ (x : Request). x.attempt) e) | inr j ↦ inr (attempt_in rs r j) ]

-- ---- one list

-- Each entry of the list is what one of these requests adds there, and where their attempts are distinct no attempt
-- stands twice.
record PutOk (rs : List Request) (xs : List Mark) : Type 0 where
  pub put : (k : ℕ) (e : Entry) → slice_get xs k ≡ Some (Added e) → (l : IsLanded (take k xs) e) × In l.request rs
  pub once : Distinct (attempts rs) → (j k : ℕ) (d e : Entry) → slice_get xs j ≡ Some (Added d) → slice_get xs k ≡ Some (Added e) → d.attempt ≡ e.attempt → j ≡ k

put_nil : (rs : List Request) → PutOk rs []
put_nil rs = record { put = λ k e g. absurd (let z = get_less k [] (Added e) g in omega arith); once = λ u j k d e g h s. absurd (let z = get_less j [] (Added d) g in omega arith) }

put_prefix : (rs : List Request) (xs ys : List Mark) → IsPrefix xs ys → PutOk rs ys → PutOk rs xs
put_prefix rs xs ys p a = record {
  put = λ k e g. let x = a.put k e (get_prefix k xs ys (Added e) p g) in
      let less : k < length xs = get_less k xs (Added e) g in
      subst (λ z. (l : IsLanded z e) × In l.request rs) (pre_take_of k p (omega arith)) x;
  once = λ u j k d e g h s. a.once u j k d e (get_prefix j xs ys (Added d) p g) (get_prefix k xs ys (Added e) p h) s;
}

put_more : (rs qs : List Request) (xs : List Mark) → PutOk rs xs → PutOk (rs ++ qs) xs
put_more rs qs xs a = record {
  put = λ k e g. let x = a.put k e g in (x.0, in_append_left rs qs x.0.request x.1);
  once = λ u. a.once (distinct_left (attempts rs) (attempts qs) (subst Distinct (attempts_join rs qs) u));
}

take_front : (k : ℕ) (xs ys : List Mark) → k ≤ length xs → take k (xs ++ ys) ≡ take k xs
take_front k xs ys l = take-append-le k xs ys l

put_reset : (rs : List Request) (xs : List Mark) → PutOk rs xs → PutOk rs (xs ++ Reset ∷ [])
put_reset rs xs a = record {
  put = λ k e g. let h = old k e g in let l = get_less k xs (Added e) h in
      subst (λ z. (l : IsLanded z e) × In l.request rs) (sym (take_front k xs (Reset ∷ []) (omega arith))) (a.put k e h);
  once = λ u j k d e g h s. a.once u j k d e (old j d g) (old k e h) s;
}
  where
    old : (k : ℕ) (e : Entry) → slice_get (xs ++ Reset ∷ []) k ≡ Some (Added e) → slice_get xs k ≡ Some (Added e)
    old k e g = elim (get_push k xs Reset (Added e) g) [ inl x ↦ x | inr x ↦ absurd (let z = x.1 in cc) ]

-- a request is put that lands
put_push : (rs : List Request) (xs : List Mark) (r : Request) (end : ℕ) → end_behind xs r ≡ Some end → PutOk rs xs → PutOk (rs ++ r ∷ []) (xs ++ Added (entry_behind xs r) ∷ [])
put_push rs xs r end lands a = record {
  put = λ k e g. elim (get_push k xs (Added new) (Added e) g) [
    | inl x ↦ (let y = a.put k e x in let l = get_less k xs (Added e) x in
        subst (λ z. (l : IsLanded z e) × In l.request (rs ++ r ∷ [])) (sym (take_front k xs (Added new ∷ []) (omega arith))) (y.0, in_append_left rs (r ∷ []) y.0.request y.1))
    | inr x ↦ (let z : take k (xs ++ Added new ∷ []) ≡ xs = take_front k xs (Added new ∷ []) (omega (arith, x.0)) ∙ take_all k xs (omega (arith, x.0)) in
        subst (λ z. (l : IsLanded z e) × In l.request (rs ++ r ∷ [])) (sym z) (record { request = r; end = end; lands = lands; entry = sym (same e x.1) }, in_last rs r))
  ];
  once = λ u j k d e g h s. elim (get_push j xs (Added new) (Added d) g) [
    | inl x ↦ elim (get_push k xs (Added new) (Added e) h) [
      | inl y ↦ a.once (distinct_left (attempts rs) (r.attempt ∷ []) (subst Distinct (attempts_join rs (r ∷ [])) u)) j k d e x y s
      | inr y ↦ absurd (unused u j d x (s ∙ ap (λ (z : Entry). z.attempt) (sym (same e y.1))))
    ]
    | inr x ↦ elim (get_push k xs (Added new) (Added e) h) [
      | inl y ↦ absurd (unused u k e y (sym s ∙ ap (λ (z : Entry). z.attempt) (sym (same d x.1))))
      | inr y ↦ x.0 ∙ sym y.0
    ]
  ];
}
  where
    new : Entry
    new = entry_behind xs r

    same : (e : Entry) → Added new ≡ Added e → new ≡ e
    same e s = cc

    -- none of the entries before it has its attempt
    unused : Distinct (attempts (rs ++ r ∷ [])) → (k : ℕ) (e : Entry) → slice_get xs k ≡ Some (Added e) → e.attempt ≡ r.attempt → ⊥
    unused u k e g s = let y = a.put k e g in
        let z : y.0.request.attempt ≡ r.attempt = sym (ap (λ (x : Entry). x.attempt) y.0.entry) ∙ s in
        distinct_last (attempts rs) r.attempt (subst Distinct (attempts_join rs (r ∷ [])) u) (subst (λ x. In x (attempts rs)) z (attempt_in rs y.0.request y.1))

-- the journal is a prefix of an epoch's list
journal_put : (K : Keys) (g : Ghost) → Global K g → (rs : List Request) → ((e : ℕ) → PutOk rs (g.text e)) → PutOk rs g.journal
journal_put K g gl rs texts = elim (cases_lt 0 g.top) [
  | inl x ↦ put_prefix rs g.journal (g.text g.top) (gl.top x).within (texts g.top)
  | inr x ↦ subst (λ xs. PutOk rs xs) (sym (gl.none_open (omega arith))) (put_nil rs)
]

-- ---- what a broker's spool is behind a letter

module _ (K : Keys) (g : Ghost) (n : ℕ) (st : Node) (gl : Global K g) (ok : NodeOk K g n st) (rs : List Request) (texts : (e : ℕ) → PutOk rs (g.text e)) where
  of_copy : (e : ℕ) (entries : List Mark) → Copy K g e entries → PutOk rs entries
  of_copy e entries c = put_prefix rs entries (g.text e) c.within (texts e)

  own : PutOk rs st.spool
  own = of_copy st.adopted st.spool ok.body.copy

  of_journal : PutOk rs g.journal
  of_journal = journal_put K g gl rs texts

  abbrev Fine : Outcome → Type 0
  Fine o = PutOk rs o.node.spool

  after_promise : (from e : ℕ) → Fine (Rules.on_promise n st from e)
  after_promise from e = cond_both (nat_lt e st.promised) _ _ Fine (λ _. own) (λ _. cond_both (nat_lt st.promised e) _ _ Fine (λ _. own) (λ _. own))

  after_changed : (r : Route) → Fine (Rules.on_changed n st r)
  after_changed r = cond_both ((n == r.lead) && nat_lt st.promised r.epoch) _ _ Fine (λ _. own) (λ _. own)

  after_adopt : (from e : ℕ) (image : Image) → PutOk rs image.entries → Fine (Rules.on_adopt n st from e image)
  after_adopt from e image a = cond_both (nat_lt e st.promised) _ _ Fine (λ _. own)
      (λ _. cond_both (eqb st.adopted e) _ _ Fine (λ _. own) (λ _. cond_both (nat_lt st.promised e) _ _ Fine (λ _. a) (λ _. a)))

  -- an image that a report has
  abbrev Has : ℕ → Report → Type 0
  Has m q = PutOk rs q.image.entries

  has_slot : (ps : List (ℕ × Option Report)) (m : ℕ) (q : Report) → Slots Has ps → In (m, Some q) ps → PutOk rs q.image.entries
  has_slot [] m q a i = absurd i
  has_slot (p ∷ ps) m q a i = elim i [
    | inl e ↦ subst (λ (p : ℕ × Option Report). Slot Has p.0 p.1) (sym e) a.0
    | inr j ↦ has_slot ps m q a.1 j
  ]

  taken_put : (names : List Mark) (o : ℕ) (ps : List (ℕ × Option Report)) → PutOk rs names → Slots Has ps → PutOk rs (Rules.image_taken names (Rules.best o ps)).entries
  taken_put names o ps a s = go (Rules.best o ps) refl
    where
      go : (v : Option Report) → Rules.best o ps ≡ v → PutOk rs (Rules.image_taken names v).entries
      go None e = put_reset rs names a
      go (Some q) e = let b = subst (λ v. IsBest o ps v) e (best_is o ps) in has_slot ps b.1.0 q s b.1.1

  after_opening : (r : Route) (reports : List (ℕ × Option Report)) (names : Option (List Mark)) → Slots Has reports → ((t : List Mark) → names ≡ Some t → PutOk rs t) → Fine (Rules.opening_at n st r reports names)
  after_opening r reports None s a = own
  after_opening r reports (Some names) s a =
      let all : List (ℕ × Option Report) = (n, Some (record { adopted = st.adopted; image = image_of st })) ∷ reports in
      let image = Rules.image_taken names (Rules.best r.opened all) in
      cond_both (Lists.full reports) _ _ Fine
      (λ _. subst (λ xs. PutOk rs xs) (sym (adopting_spool n (record st { adopted = r.epoch; spool = image.entries; head = image.head }) r (Lists.slots_for r.others)))
      (taken_put names r.opened all (a names refl) (own, s)))
      (λ _. own)

  reports_put : (e : ℕ) (ps : List (ℕ × Option Report)) → Slots (ReportOk K g e) ps → Slots Has ps
  reports_put e ps a = slots_map {P = ReportOk K g e} {Q = Has} (λ m q x. of_copy q.adopted q.image.entries x.copy) ps a

  names_put : (e : ℕ) (o : Option (List Mark)) → Told K g e o → (t : List Mark) → o ≡ Some t → PutOk rs t
  names_put e None a t s = cc
  names_put e (Some x) a t s = let z : x ≡ t = cc in subst (λ y. PutOk rs y) z (put_prefix rs x g.journal a.within of_journal)

  after_promised : (from e : ℕ) (q : Report) → ReportOk K g e from q → (p : Part) → PartOk K g n st p → Fine (Rules.on_promised n st from e q p)
  after_promised from e q m Closed a = own
  after_promised from e q m (Adopting r reached) a = own
  after_promised from e q m (Syncing r) a = own
  after_promised from e q m (Open r held queue) a = own
  after_promised from e q m (Opening r reports names) a = cond_both (eqb e r.epoch) _ _ Fine
      (λ _. after_opening r (Lists.fill from q reports) names (slots_fill Has from q reports (of_copy q.adopted q.image.entries m.copy) (reports_put r.epoch reports a.told)) (names_put r.epoch names a.stored))
      (λ _. own)

  after_names : (e : ℕ) (text : List Mark) → NamesOk K g e text → (p : Part) → PartOk K g n st p → Fine (Rules.on_names n st e text p)
  after_names e text m Closed a = own
  after_names e text m (Adopting r reached) a = own
  after_names e text m (Syncing r) a = own
  after_names e text m (Open r held queue) a = own
  after_names e text m (Opening r reports (Some names)) a = own
  after_names e text m (Opening r reports None) a = cond_both (eqb e r.epoch) _ _ Fine
      (λ _. after_opening r reports (Some text) (reports_put r.epoch reports a.told) (names_put e (Some text) m))
      (λ _. own)

  after_adopted : (from e reach : ℕ) (p : Part) → Fine (Rules.on_adopted n st from e reach p)
  after_adopted from e reach Closed = own
  after_adopted from e reach (Opening r reports names) = own
  after_adopted from e reach (Syncing r) = own
  after_adopted from e reach (Open r held queue) = own
  after_adopted from e reach (Adopting r reached) = cond_both (eqb e r.epoch) _ _ Fine
      (λ _. subst (λ xs. PutOk rs xs) (sym (adopting_spool n st r (Lists.fill from reach reached))) own) (λ _. own)

  after_txn_ok : (e : ℕ) (p : Part) → Fine (Rules.on_txn_ok n st e p)
  after_txn_ok e Closed = own
  after_txn_ok e (Opening r reports names) = own
  after_txn_ok e (Adopting r reached) = own
  after_txn_ok e (Open r held queue) = own
  after_txn_ok e (Syncing r) = cond_both (eqb e r.epoch) _ _ Fine (λ _. own) (λ _. own)

  after_txn_no : (e : ℕ) (p : Part) → Fine (Rules.on_txn_no n st e p)
  after_txn_no e Closed = own
  after_txn_no e (Opening r reports names) = own
  after_txn_no e (Adopting r reached) = own
  after_txn_no e (Open r held queue) = own
  after_txn_no e (Syncing r) = cond_both (eqb e r.epoch) _ _ Fine (λ _. own) (λ _. own)

  after_held : (from e reach : ℕ) (p : Part) → Fine (Rules.on_held n st from e reach p)
  after_held from e reach Closed = own
  after_held from e reach (Opening r reports names) = own
  after_held from e reach (Adopting r reached) = own
  after_held from e reach (Syncing r) = own
  after_held from e reach (Open r held queue) = cond_both (eqb e r.epoch) _ _ Fine
      (λ _. subst (λ xs. PutOk rs xs) (sym (with_head_spool n st r (Rules.raised from reach held) queue (Rules.least (length st.spool) (Rules.raised from reach held)))) own) (λ _. own)

  after_head : (e h : ℕ) → Fine (Rules.on_head st e h)
  after_head e h = cond_both (eqb st.adopted e) _ _ Fine (λ _. own) (λ _. own)

  -- a replicated entry is the next one of its epoch's list
  after_replicate : (from e offset : ℕ) (x : Mark) (head : ℕ) → MessageOk K g from n (Replicate e offset x head) → Fine (Rules.on_replicate n st from e offset x head)
  after_replicate from e offset x head a = cond_both (nat_lt e st.promised) _ _ Fine (λ _. own)
      (λ _. cond_both (eqb st.adopted e) _ _ Fine
      (λ y. let same : st.adopted ≡ e = eqb-true st.adopted e y in
      cond_both (nat_lt (length st.spool) offset) _ _ Fine (λ _. own)
      (λ _. cond_both (eqb offset (length st.spool)) _ _ Fine
      (λ z. let at : offset ≡ length st.spool = eqb-true offset (length st.spool) z in
      put_prefix rs (st.spool ++ x ∷ []) (g.text st.adopted) (pre_next x ok.body.copy.within (rw same (omega (arith, a.0))) (rw (same, ← at) a.1)) (texts st.adopted))
      (λ _. own)))
      (λ _. own))

  -- an append adds the request's entry where the request is put
  after_append : (r : Request) (p : Part) (o : Option ℕ) → end_behind st.spool r ≡ o → PutOk (rs ++ put_if r p o) (Rules.puts_if n st r p o).node.spool
  after_append r p None e = put_more rs [] st.spool own
  after_append r Closed (Some end) e = put_more rs [] st.spool own
  after_append r (Opening q reports names) (Some end) e = put_more rs [] st.spool own
  after_append r (Adopting q reached) (Some end) e = put_more rs [] st.spool own
  after_append r (Syncing q) (Some end) e = put_more rs [] st.spool own
  after_append r (Open q held queue) (Some end) e =
      let x = Added (entry_behind st.spool r) in
      subst (λ xs. PutOk (rs ++ r ∷ []) xs)
      (sym (with_head_spool n (record st { spool = st.spool ++ x ∷ [] }) q held (queue ++ (length st.spool + 1) ∷ []) (Rules.least (length (st.spool ++ x ∷ [])) held)))
      (put_push rs st.spool r end e own)

  after_message : (from : ℕ) (b : Message) → MessageOk K g from n b → PutOk (rs ++ put_of st b) (Rules.take_message n st from b).node.spool
  after_message from (Append r) a = after_append r st.part (end_behind st.spool r) refl
  after_message from (Changed r) a = put_more rs [] _ (after_changed r)
  after_message from (Promise e) a = put_more rs [] _ (after_promise from e)
  after_message from (Promised e q) a = put_more rs [] _ (after_promised from e q a st.part ok.part)
  after_message from (Adopt e image) a = put_more rs [] _ (after_adopt from e image (of_copy e image.entries a.2))
  after_message from (Adopted e reach) a = put_more rs [] _ (after_adopted from e reach st.part)
  after_message from (TxnOk e) a = put_more rs [] _ (after_txn_ok e st.part)
  after_message from (TxnNo e) a = put_more rs [] _ (after_txn_no e st.part)
  after_message from (Replicate e offset x head) a = put_more rs [] _ (after_replicate from e offset x head a)
  after_message from (Held e reach) a = put_more rs [] _ (after_held from e reach st.part)
  after_message from (Head e head) a = put_more rs [] _ (after_head e head)
  after_message from (Names e text) a = put_more rs [] _ (after_names e text a.1 st.part ok.part)
  after_message from _ a = put_more rs [] st.spool own

-- ---- what each broker's spool is behind an event

-- all lists of epochs
abbrev TextsOk : List Request → Ghost → Type 0
TextsOk rs g = (e : ℕ) → PutOk rs (g.text e)

module _ (w : Worlds) (i : Inv w) (rs : List Request) (texts : TextsOk rs i.g) (n : ℕ) where
  -- whatever is put, where this broker isn't moved
  unmoved : (qs : List Request) → PutOk (rs ++ qs) (node_at w.state.nodes n).spool
  unmoved qs = let b = (i.nodes n).body in put_more rs qs (node_at w.state.nodes n).spool (put_prefix rs (node_at w.state.nodes n).spool (i.g.text (node_at w.state.nodes n).adopted) b.copy.within (texts (node_at w.state.nodes n).adopted))

  abbrev Fits : List Request → Moved → Type 0
  Fits qs m = PutOk (rs ++ qs) (node_at m.state.nodes n).spool

  after_node : (flight : List Letter) (l : Letter) → LetterOk i.K i.g l → l.to < length w.state.nodes →
      Fits (put_of (node_at w.state.nodes l.to) l.body) (World.step_node w.state flight l (Rules.take_message l.to (node_at w.state.nodes l.to) l.from l.body))
  after_node flight l a less =
      let st = node_at w.state.nodes l.to in
      let out = Rules.take_message l.to st l.from l.body in
      elim (cases_eq n l.to) [
        | inl x ↦ subst (λ (s : Node). PutOk (rs ++ put_of st l.body) s.spool) (sym (ap (λ m. node_at (slice_set w.state.nodes l.to out.node) m) x ∙ get_or-set_same w.state.nodes l.to out.node fresh less))
            (after_message i.K i.g l.to st i.global (i.nodes l.to) rs texts l.from l.body a)
        | inr x ↦ subst (λ (s : Node). PutOk (rs ++ put_of st l.body) s.spool) (sym (get_or-set_other w.state.nodes l.to n out.node fresh x)) (unmoved (put_of st l.body))
      ]

  after_keys : (qs : List Request) (flight : List Letter) (l : Letter) (b : Message) → Fits qs (World.step_keys w.state flight l b)
  after_keys qs flight l (Txn e) = cond_both (eqb e (World.latest w.state.routes)) _ _ (Fits qs) (λ _. unmoved qs) (λ _. unmoved qs)
  after_keys qs flight l _ = unmoved qs

  after_delivery : (k : ℕ) (o : Option Letter) → ((l : Letter) → o ≡ Some l → LetterOk i.K i.g l) → Fits (put_by w.state o) (World.delivery w.state k o)
  after_delivery k None a = unmoved []
  after_delivery k (Some l) a =
      let runs = slice_index_or w.state.runs l.to false in
      let less = nat_lt l.to (length w.state.nodes) in
      let put = put_of (node_at w.state.nodes l.to) l.body in
      cond_both (eqb l.to Rules.keys) _ _ (Fits (put_by w.state (Some l)))
      (λ _. after_keys (put_by w.state (Some l)) (remove w.state.flight k) l l.body)
      (λ y. cond_both (runs && less) _ _ (Fits (put_by w.state (Some l)))
      (λ x. let p = and_parts runs less x in
      let all : (not (eqb l.to Rules.keys) && runs && less) ≡ true = and_from _ _ (and_from _ _ (ap not y) p.0) p.1 in
      let same : put_by w.state (Some l) ≡ put = ap (λ (v : Bool). if v then put else []) all in
      subst (λ qs. Fits qs (World.step_node w.state (remove w.state.flight k) l (Rules.take_message l.to (node_at w.state.nodes l.to) l.from l.body))) (sym same)
      (after_node (remove w.state.flight k) l (a l refl) (ltb-true l.to (length w.state.nodes) p.1)))
      (λ _. unmoved (put_by w.state (Some l))))

  after_again : (o : Option Letter) → Fits [] (World.again w o)
  after_again None = unmoved []
  after_again (Some l) = unmoved []

  spools_put : (e : Event) → PutOk (rs ++ puts w e) (node_at (World.happens w e).state.nodes n).spool
  spools_put (Converge more lead others) = unmoved []
  spools_put (Crash m) = unmoved []
  spools_put (Write to x) = unmoved []
  spools_put (Deliver k) = after_delivery k (slice_get w.state.flight k) (λ l e. each_in (LetterOk i.K i.g) w.state.flight l i.flight (in_at w.state.flight k l e))
  spools_put (Drop k) = unmoved []
  spools_put (Flush m) = unmoved []
  spools_put (Repeat k) = after_again (slice_get w.said k)
  spools_put (Renew k m) = after_again (World.renewed (slice_get w.said k) (slice_get w.said m))
  spools_put (Resend m) = unmoved []
  spools_put (Give m k) = unmoved []

-- ---- runs

texts_after : (w : Worlds) (i : Inv w) (e : Event) (v : Went i (World.happens w e)) (rs : List Request) → TextsOk rs i.g → TextsOk (rs ++ puts w e) v.after.g
texts_after w i e v rs t = λ d. elim (v.texts d) [
  | inl x ↦ subst (λ xs. PutOk (rs ++ puts w e) xs) (sym x) (put_more rs (puts w e) (i.g.text d) (t d))
  | inr x ↦ subst (λ xs. PutOk (rs ++ puts w e) xs) (sym x.1) (spools_put w i rs t x.0 e)
]

texts_run : (es : List Event) (w : Worlds) (i : Inv w) → HandoverThroughout es w → (rs : List Request) → TextsOk rs i.g → (j : Inv (World.run es w)) × TextsOk (rs ++ requests_put es w) j.g
texts_run [] w i h rs t = (i, λ d. put_more rs [] (i.g.text d) (t d))
texts_run (e ∷ es) w i h rs t =
    let v = event_ok w i e h.0 in
    let x = texts_run es (World.happens w e) v.after h.1 (rs ++ puts w e) (texts_after w i e v rs t) in
    (x.0, subst (λ qs. TextsOk qs x.0.g) (append_assoc rs (puts w e) (requests_put es (World.happens w e))) x.1)

-- the journal of a run, with the requests that the run puts
run_put : (size : ℕ) (es : List Event) → HandoverThroughout es (World.start size) → PutOk (requests_put es (World.start size)) (World.run es (World.start size)).journal
run_put size es h =
    let rs = requests_put es (World.start size) in
    let x = texts_run es (World.start size) (begins size) h [] (λ e. subst (λ xs. PutOk [] xs) (sym (begins_empty size e)) (put_nil [])) in
    subst (λ xs. PutOk rs xs) x.0.journal (journal_put x.0.K x.0.g x.0.global rs x.1)

pub lands_once : (size : ℕ) (es : List Event) → HandoverThroughout es (World.start size) → PutsEachOnce es (World.start size) → LandsEachOnce (World.run es (World.start size))
lands_once size es h u = (run_put size es h).once u

pub lands_of : (size : ℕ) (es : List Event) → HandoverThroughout es (World.start size) → LandsOf (requests_put es (World.start size)) (World.run es (World.start size))
lands_of size es h = (run_put size es h).put
