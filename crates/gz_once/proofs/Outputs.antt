-- Lines land in an output: readers take them for older ones, or they are all of their producer's newest transaction's lines for it. An
-- acknowledgement lands: readers take it for an older one, or it releases exactly these lines.
use Rattle.std.proofs.Common.{◌≡◌, ℕ, ◌+◌, ◌<◌, ◌≤◌, List, [], ◌∷◌, ◌++◌, refl, ap, sym, ◌∙◌, arith, true, Some, subst, ◌⊎◌, inl, inr, append-nil}
use Rattle.std.proofs.lemmas.Bool.{cases_eq, cases_lt, true≢false}
use Rattle.gz_reader.specs.Lists.{In}
use Rattle.gz_reader.specs.Reader.{Line, Message, Rest, read, acknowledgement, pour, take_lines, take_ack, up_to, raise, above}
use Rattle.gz_once.specs.Applications.{App, values_to}
use Rattle.gz_once.specs.Log.{Transaction, ack, lines, Entry, Handed, Committed, last}
use Rattle.gz_once.specs.Processes.{Append, Handoff, Commit, Lines, Ack, Process}
use Rattle.gz_once.specs.Worlds.{Waits, Landed, Shared, put, mark, append_of}
use Rattle.gz_once.proofs.Facts.{want, before}
use Rattle.gz_reader.proofs.Updates.{some_same, none_some, upd_here, upd_other, upd_each}
use Rattle.gz_reader.proofs.Appends.{Below, Ascending, below_up, ascending_down, above_le, below_above, low_lines, high_lines, none_up_to, pour_other, pour_here, pour_accepted, pour_in, pour_from, raise_le, raise_high, raise_low, ack_next, own_join, up_to_by}
use Rattle.gz_once.proofs.TxLines.{lines_ascending, lines_below, tx_released}
use Rattle.gz_once.proofs.Logs.{Settled, log_up, in_settled, settled_up}
use Rattle.gz_once.proofs.Facts.{Ghost, cur, bound, seen, NoAcks, Stock, RestOk, OutOk, LinesWait, AckWaits, WaitsOk, LandedOk, ProcOk, SharedOk, TextAs, Known}
use Rattle.gz_once.specs.Theorem.{Intent}
use Rattle.gz_reader.specs.Reader.{values_of}
use Rattle.gz_once.proofs.Frames.{spoken_up, Kept, commit_kept}
use Rattle.gz_once.proofs.Sends.{up_refl}
use Rattle.gz_once.proofs.Judged.{still_held, judged_landed, still_waits, fresh_on, judged_kept}
use Rattle.gz_once.proofs.Entries.{other_or_own}

-- a draw of the shard was drawn
pub drawn_low : (g : App) (s : Shared) (h : Ghost) → SharedOk g s h → (p : ℕ) → s.own p ≡ true → p ≤ s.drawn
drawn_low g s h ok p o = elim (cases_lt s.drawn p) [ inl l ↦ absurd (true≢false (sym o ∙ (ok.undrawn p l).2)) | inr l ↦ l ]

pub in_join : {A : Type 0} (xs ys : List A) (x : A) → In x (xs ++ ys) → In x xs ⊎ In x ys
in_join [] ys x i = inr i
in_join (y ∷ xs) ys x i = elim i [ inl e ↦ inl (inl e) | inr j ↦ elim (in_join xs ys x j) [ inl k ↦ inl (inr k) | inr k ↦ inr k ] ]

module _ (g : App) (s : Shared) (h : Ghost) (ok : SharedOk g s h) (i j p : ℕ) (ls : List Line) (e : s.slots i ≡ Waits (Lines j p ls)) where
  abbrev x : Append
  x = Lines j p ls

  abbrev t : Shared
  t = mark (put s x) i (Landed x)

  -- what a landing of lines may do to a reader: nothing, or the newest transaction's lines are the chain
  abbrev Changed : ℕ → ℕ → Rest → Rest → Type 0
  Changed a b r u = (u ≡ r) ⊎ ((y : Transaction) × (cur h b ≡ Some y) × (u.next ≡ r.next) × (u.chain ≡ lines g y a) × (r.next ≤ y.first))

  fills : (r : Rest) → seen s j p ≡ r → (r.chain ≡ []) ⊎ ((y : Transaction) × (cur h p ≡ Some y) × (r.chain ≡ lines g y j) × (r.next ≤ y.first)) →
      ((y : Transaction) → cur h p ≡ Some y → (r.next ≤ y.first) ⊎ (r.next ≡ ack y + 1)) →
      Below r.next ls ⊎ ((y : Transaction) × (cur h p ≡ Some y) × (ls ≡ lines g y j)) → Changed j p r (take_lines r ls)
  fills r z c steps w = elim w [
    | inl b ↦ inl (low_lines r ls (elim c [
      | inl n ↦ subst (λ v. Below (above r.next v) ls) (sym n) b
      | inr y ↦ (let l = above_le r.next r.chain (subst (Ascending r.next) (sym y.2) (ascending_down r.next (y.0).first (lines g y.0 j) y.3 (lines_ascending g y.0 j))) in below_up r.next (above r.next r.chain) ls l b)
    ]))
    | inr y ↦ elim c [
      | inl n ↦ elim (steps y.0 y.1) [
        | inl l ↦ inr (
          y.0,
          y.1,
          ap (λ (q : Rest). q.next) (grows y l n),
          ap (λ (q : Rest). q.chain) (grows y l n) ∙ ap (λ v. v ++ ls) n ∙ y.2,
          l,
        )
        | inr l ↦ inl (low_lines r ls (subst (λ v. Below (above r.next v) ls) (sym n)
            (subst (Below r.next) (sym y.2) (below_up (ack y.0) r.next (lines g y.0 j) (omega (arith, l)) (lines_below g y.0 j)))))
      ]
      | inr v ↦ inl (low_lines r ls
          (let same : v.0 ≡ y.0 = some_same (sym v.1 ∙ y.1) in
          let all : r.chain ≡ ls = v.2 ∙ ap (λ q. lines g q j) same ∙ sym y.2 in
          let up : Ascending r.next r.chain = subst (Ascending r.next) (sym v.2) (ascending_down r.next (v.0).first (lines g v.0 j) v.3 (lines_ascending g v.0 j)) in
          subst (Below (above r.next r.chain)) all (below_above r.next r.chain up)))
    ]
  ]
    where
      grows : (y : (y : Transaction) × (cur h p ≡ Some y) × (ls ≡ lines g y j)) → r.next ≤ (y.0).first → r.chain ≡ [] → take_lines r ls ≡ record { next = r.next; chain = r.chain ++ ls }
      grows y l n = high_lines r ls (subst (λ v. Ascending (above r.next v) ls) (sym n) (subst (Ascending r.next) (sym y.2) (ascending_down r.next (y.0).first (lines g y.0 j) l (lines_ascending g y.0 j))))

  changed_here : (b : ℕ) → Changed j b (seen s j b) ((read (pour p ls (s.outs j))).rest b)
  changed_here b = elim (cases_eq b p) [
    | inl q ↦ subst (λ n. Changed j n (seen s j n) ((read (pour p ls (s.outs j))).rest n)) (sym q)
        (let w : LinesWait g s h j p ls = ok.waits i x e in let r = ok.rests j p w.own in
        subst (Changed j p (seen s j p)) (sym (pour_here p ls (s.outs j))) (fills (seen s j p) refl r.chain r.steps w.lines))
    | inr d ↦ inl (pour_other p ls (s.outs j) b d)
  ]

  changed : (a b : ℕ) → Changed a b (seen s a b) (seen t a b)
  changed a b = upd_each s.outs j (pour p ls (s.outs j)) (λ n u. Changed n b (seen s n b) ((read u).rest b)) (changed_here b) a (λ _. inl refl)

  next_same : (a b : ℕ) → (seen t a b).next ≡ (seen s a b).next
  next_same a b = elim (changed a b) [ inl c ↦ ap (λ (r : Rest). r.next) c | inr c ↦ c.2 ]

  accepted_same : (a : ℕ) → (read (t.outs a)).accepted ≡ (read (s.outs a)).accepted
  accepted_same a = upd_each s.outs j (pour p ls (s.outs j)) (λ n u. (read u).accepted ≡ (read (s.outs n)).accepted) (pour_accepted p ls (s.outs j)) a (λ _. refl)

  ins : (a : ℕ) (m : Message) → In m (s.outs a) → In m (t.outs a)
  ins a m = upd_each s.outs j (pour p ls (s.outs j)) (λ n u. In m (s.outs n) → In m u) (pour_in p ls (s.outs j) m) a (λ _ z. z)

  -- the chain that waits for an acknowledgement stays
  chain_on : (a b : ℕ) (y : Transaction) → cur h b ≡ Some y → (seen s a b).chain ≡ lines g y a → (seen t a b).chain ≡ lines g y a
  chain_on a b y c z = elim (changed a b) [
    | inl d ↦ ap (λ (r : Rest). r.chain) d ∙ z
    | inr d ↦ d.3 ∙ ap (λ q. lines g q a) (some_same (sym d.1 ∙ c))
  ]

  le_on : (a b n : ℕ) → (seen s a b).next ≤ n → (seen t a b).next ≤ n
  le_on a b n l = subst (λ v. v ≤ n) (sym (next_same a b)) l

  lines_stock : (y : Transaction) (a b : ℕ) → cur h b ≡ Some y → y.producer ≡ b → Stock g s y a → Stock g t y a
  lines_stock y a b c z st n = let r = st n in let c' : cur h y.producer ≡ Some y = ap (cur h) z ∙ c in (chain_on a y.producer y c' r.0, le_on a y.producer y.first r.1)

  -- the newest transaction's lines have landed
  landed_stock : (y : Transaction) (a b : ℕ) → cur h b ≡ Some y → y.producer ≡ b → (seen s a b).next ≤ y.first → x ≡ Lines a b (lines g y a) → Stock g t y a
  landed_stock y a b c z l q n =
      let ja : j ≡ a = cc in
      let pb : p ≡ b = cc in
      let same : ls ≡ lines g y a = cc in
      let c1 : cur h p ≡ Some y = ap (cur h) pb ∙ c in
      let l1 : (seen s j p).next ≤ y.first = subst (λ v. (seen s v p).next ≤ y.first) (sym ja) (subst (λ v. (seen s a v).next ≤ y.first) (sym pb) l) in
      let chain : ((read (pour p ls (s.outs j))).rest p).chain ≡ lines g y j =
      ap (λ (r : Rest). r.chain) (pour_here p ls (s.outs j)) ∙ filled y c1 (same ∙ ap (lines g y) (sym ja)) l1 in
      let at : (seen t j p).chain ≡ lines g y j = ap (λ u. ((read u).rest p).chain) (upd_here s.outs j (pour p ls (s.outs j))) ∙ chain in
      let at' : (seen t a y.producer).chain ≡ lines g y a = subst (λ v. (seen t v y.producer).chain ≡ lines g y v) ja (subst (λ v. (seen t j v).chain ≡ lines g y j) (pb ∙ sym z) at) in
      (at', le_on a y.producer y.first (subst (λ v. (seen s a v).next ≤ y.first) (sym z) l))
    where
      filled : (y : Transaction) → cur h p ≡ Some y → ls ≡ lines g y j → (seen s j p).next ≤ y.first → (take_lines (seen s j p) ls).chain ≡ lines g y j
      filled y c q l = let r = seen s j p in let w : LinesWait g s h j p ls = ok.waits i x e in elim ((ok.rests j p w.own).chain) [
        | inl n ↦ ap (λ (q : Rest). q.chain) (high_lines r ls (subst (λ v. Ascending (above r.next v) ls) (sym n) (subst (Ascending r.next) (sym q) (ascending_down r.next y.first (lines g y j) l (lines_ascending g y j)))))
            ∙ ap (λ v. v ++ ls) n ∙ q
        | inr v ↦ (let same : v.0 ≡ y = some_same (sym v.1 ∙ c) in
            let all : r.chain ≡ ls = v.2 ∙ ap (λ q. lines g q j) same ∙ sym q in
            let up : Ascending r.next r.chain = subst (Ascending r.next) (sym v.2) (ascending_down r.next (v.0).first (lines g v.0 j) v.3 (lines_ascending g v.0 j)) in
            ap (λ (q : Rest). q.chain) (low_lines r ls (subst (Below (above r.next r.chain)) all (below_above r.next r.chain up))) ∙ all ∙ q)
      ]

  lines_kept : (a b : ℕ) → Kept g s t h h a b
  lines_kept a b = judged_kept g s h ok i x e (Landed x) (judged_landed x) s.log s.register t.outs h.pending a b (inl refl) ins
      (λ u n y c q z st. lines_stock y c b q z st) (λ u n y c q l. le_on c b y.first l)
      (λ u n y c q z l d. landed_stock y c b q z l (some_same (ap append_of d))) refl (λ z. z)

  lines_waits : (m : ℕ) (y : Append) → t.slots m ≡ Waits y → WaitsOk g s h m y → WaitsOk g t h m y
  lines_waits m (Handoff c n nn) z v = record { pending = v.pending; pos = v.pos; drawn = v.drawn; taken = v.taken; absent = v.absent; base = v.base }
  lines_waits m (Commit y) z v = commit_kept g s t h h m y (lines_kept y.author y.producer) z v
  lines_waits m (Lines a b us) z v = record { own = v.own; lines = elim v.lines [ inl l ↦ inl (subst (λ n. Below n us) (sym (next_same a b)) l) | inr l ↦ inr l ] }
  lines_waits m (Ack a b c) z v = record {
    x = v.x;
    landed = v.landed;
    producer = v.producer;
    clock = v.clock;
    needed = v.needed;
    state = elim v.state [ inl l ↦ inl (subst (λ n. c < n) (sym (next_same a b)) l) | inr l ↦ inr l ];
  }

  landed_up : (y : Append) → LandedOk s y → LandedOk t y
  landed_up (Handoff b o nn) q = tt
  landed_up (Commit z) q = tt
  landed_up (Lines a b us) q = tt
  landed_up (Ack a b c) q = ins a (acknowledgement b c) q

  lines_rest : (a b : ℕ) → s.own b ≡ true → RestOk g t h a b
  lines_rest a b z = let r = ok.rests a b z in record {
    chain = elim (changed a b) [
      | inl d ↦ elim r.chain [
        | inl n ↦ inl (ap (λ (u : Rest). u.chain) d ∙ n)
        | inr n ↦ inr (n.0, n.1, ap (λ (u : Rest). u.chain) d ∙ n.2, le_on a b (n.0).first n.3)
      ]
      | inr d ↦ inr (d.0, d.1, d.3, le_on a b (d.0).first d.4)
    ];
    level = le_on a b (bound (cur h b)) r.level;
    steps = λ y c. elim (r.steps y c) [ inl l ↦ inl (le_on a b y.first l) | inr l ↦ inr (next_same a b ∙ l) ];
  }

  own_low : p ≤ s.drawn
  own_low = let w : LinesWait g s h j p ls = ok.waits i x e in drawn_low g s h ok p w.own

  pub lines_shared : SharedOk g t h
  lines_shared = record {
    log = log_up g s.sources s.sources s.outs t.outs (up_refl g s.sources) ins s.log ok.log;
    authors = ok.authors;
    commits = λ y q. let c = ok.commits y q in record { under = c.under; pos = c.pos; own = c.own; taken = c.taken; drawn = c.drawn; current = elim c.current [ inl z ↦ inl z | inr z ↦ inr (settled_up g s.outs t.outs ins y z) ] };
    rests = lines_rest;
    outs = λ a. elim (ok.outs a) [
      | inl o ↦ inl (record { accepted = ap (values_of s.own) (accepted_same a) ∙ o.accepted; acked = λ y z n. ins a (acknowledgement y.producer (ack y)) (o.acked y z n) })
      | inr o ↦ inr (record {
        x = o.x;
        is_last = o.is_last;
        accepted = ap (values_of s.own) (accepted_same a) ∙ o.accepted;
        needed = o.needed;
        chain = chain_on a (o.x).producer o.x o.current o.chain;
        low = le_on a (o.x).producer (o.x).first o.low;
        current = o.current;
        sole = λ m c z. o.sole m c (still_waits g s h ok i x e (Landed x) (judged_landed x) m (Ack a (o.x).producer c) z).1;
      })
    ];
    waits = λ m y z. lines_waits m y z (ok.waits m y (still_waits g s h ok i x e (Landed x) (judged_landed x) m y z).1);
    landed = λ m y. upd_each s.slots i (Landed x) (λ n r. r ≡ Landed y → LandedOk t y) (λ z. subst (LandedOk t) (some_same (ap append_of z)) tt) m (λ _ z. landed_up y (ok.landed m y z));
    frees = ok.frees;
    fresh = fresh_on g s h ok i x e (Landed x) (judged_landed x);
    register = ok.register;
    spoken = spoken_up g s t h h (λ y z. z) (λ p y z. z) (λ m y z. inl (still_held g s h ok i x e (Landed x) (judged_landed x) m y z))
        (λ a m. upd_each s.outs j (pour p ls (s.outs j)) (λ n u. In m u → s.own m.producer ≡ true → (In m (s.outs n) × (s.own m.producer ≡ true)) ⊎ TextAs g t h n m) (λ z y. elim (pour_from p ls (s.outs j) m z) [
          | inl q ↦ inl (q, y)
          | inr q ↦ (let w = (ok.spoken).slots i x (ap append_of e) in
              inr (inl (w.0, subst (λ v. In w.0 (h.begun v)) (sym q.0) w.1, q.1, subst (In (record { clock = m.clock; value = m.value })) w.2 q.2)))
        ]) a (λ _ z y. inl (z, y)))
        (λ y z. inl z) ok.spoken;
    history = ok.history;
    undrawn = ok.undrawn;
    low = λ a m. upd_each s.outs j (pour p ls (s.outs j)) (λ n u. In m u → Known g s m.producer) (λ z. elim (pour_from p ls (s.outs j) m z) [
      | inl q ↦ ok.low j m q
      | inr q ↦ subst (Known g s) (sym q.0) (inl own_low)
    ]) a (λ _ z. ok.low a m z);
    heard = λ a m z. ok.heard a m (subst (In m) (accepted_same a) z);
  }

  pub lines_proc : (m : ℕ) (q : Process) → ProcOk g s h m q → ProcOk g t h m q
  lines_proc m q c = other_or_own g s h ok i x e t h m q (λ z. z) (omega arith) (λ _. lines_kept q.author q.producer) (λ _ r. absurd r) c

-- the last commit's values complete what the others emit
want_last : (g : App) (j : ℕ) (es : List Entry) (y : Transaction) → last es ≡ Some y → before g j es ++ values_to g j y.emitted ≡ want g j es
want_last g j [] y z = absurd (none_some z)
want_last g j (Handed a k ∷ es) y z = want_last g j es y z
want_last g j (Committed x ∷ es) y z = ap (λ v. want g j es ++ values_to g j v.emitted) (sym (some_same z))

module _ (g : App) (s : Shared) (h : Ghost) (ok : SharedOk g s h) (i j p c : ℕ) (e : s.slots i ≡ Waits (Ack j p c)) where
  abbrev ax : Append
  ax = Ack j p c

  abbrev at : Shared
  at = mark (put s ax) i (Landed ax)

  aw : AckWaits g s h j p c
  aw = ok.waits i ax e

  aown : s.own p ≡ true
  aown = ap s.own (sym aw.producer) ∙ (ok.commits aw.x aw.landed).own

  abbrev old : Rest
  old = seen s j p

  -- it is a repeat, or the first one of the newest transaction
  state : (c < old.next) ⊎ ((cur h p ≡ Some aw.x) × (old.next ≤ (aw.x).first))
  state = elim aw.state [
    | inl l ↦ inl l
    | inr n ↦ elim ((ok.rests j p aown).steps aw.x n) [ inl l ↦ inr (n, l) | inr l ↦ inl (omega (arith, l, aw.clock)) ]
  ]

  ack_settled : Settled g s.outs aw.x → c < old.next
  ack_settled st = subst (λ n. c < (seen s j n).next) aw.producer (subst (λ n. n < (seen s j (aw.x).producer).next) aw.clock (ack_next (aw.x).producer (ack aw.x) (s.outs j) (st j aw.needed)))

  -- a repeat releases nothing
  nothing : c < old.next → up_to p c old.chain ≡ []
  nothing l = elim ((ok.rests j p aown).chain) [
    | inl n ↦ ap (up_to p c) n
    | inr n ↦ ap (up_to p c) n.2 ∙ none_up_to p c old.next (lines g n.0 j) (ascending_down old.next (n.0).first (lines g n.0 j) n.3 (lines_ascending g n.0 j)) l
  ]

  there : (a b : ℕ) → ((a ≡ j) × (b ≡ p) → ⊥) → seen at a b ≡ seen s a b
  there a b d = upd_each s.outs j (acknowledgement p c ∷ s.outs j) (λ n u. ((n ≡ j) × (b ≡ p) → ⊥) → (read u).rest b ≡ (read (s.outs n)).rest b)
      (λ f. upd_other (read (s.outs j)).rest p (take_ack old c) b (λ z. f (refl, z))) a (λ _ _. refl) d

  here : seen at j p ≡ take_ack old c
  here = ap (λ u. (read u).rest p) (upd_here s.outs j (acknowledgement p c ∷ s.outs j)) ∙ upd_here (read (s.outs j)).rest p (take_ack old c)

  which : (a b : ℕ) → ((a ≡ j) × (b ≡ p)) ⊎ ((a ≡ j) × (b ≡ p) → ⊥)
  which a b = elim (cases_eq a j) [
    | inl u ↦ elim (cases_eq b p) [ inl v ↦ inl (u, v) | inr v ↦ inr (λ z. v z.1) ]
    | inr u ↦ inr (λ z. u z.0)
  ]

  -- a fact on readers, by whether it is this one
  by_which : (P : ℕ → ℕ → Rest → Type 0) → P j p (take_ack old c) → ((a b : ℕ) → P a b (seen s a b)) → (a b : ℕ) → P a b (seen at a b)
  by_which P f o a b = elim (which a b) [
    | inl z ↦ subst (λ n. P n b (seen at n b)) (sym z.0) (subst (λ n. P j n (seen at j n)) (sym z.1) (subst (P j p) (sym here) f))
    | inr z ↦ subst (P a b) (sym (there a b z)) (o a b)
  ]

  next_up : (a b : ℕ) → (seen s a b).next ≤ (seen at a b).next
  next_up = by_which (λ a b r. (seen s a b).next ≤ r.next) (raise_le old.next c) (λ a b. omega arith)

  ack_ins : (a : ℕ) (m : Message) → In m (s.outs a) → In m (at.outs a)
  ack_ins a m = upd_each s.outs j (acknowledgement p c ∷ s.outs j) (λ n u. In m (s.outs n) → In m u) (λ z. inr z) a (λ _ z. z)

  ack_here : In (acknowledgement p c) (at.outs j)
  ack_here = subst (In (acknowledgement p c)) (sym (upd_here s.outs j (acknowledgement p c ∷ s.outs j))) (inl refl)

  -- where none of the producer waits, this isn't of it
  not_it : (b : ℕ) → NoAcks s b → (b ≡ p → ⊥)
  not_it b n z = n i j c (e ∙ ap (λ v. Waits (Ack j v c)) (sym z))

  ack_kept : (a b : ℕ) → Kept g s at h h a b
  ack_kept a b = judged_kept g s h ok i ax e (Landed ax) (judged_landed ax) s.log s.register at.outs h.pending a b (inl refl) ack_ins
      (λ u n y v q z st m. let r = st m in let d = there v y.producer (λ w. not_it b n (sym z ∙ w.1)) in (ap (λ (x : Rest). x.chain) d ∙ r.0, subst (λ x. x.next ≤ y.first) (sym d) r.1))
      (λ u n y v q l. subst (λ (x : Rest). x.next ≤ y.first) (sym (there v b (λ w. not_it b n w.1))) l)
      (λ u n y v q z l d. absurd (let d' : Ack j p c ≡ Lines v b (lines g y v) = some_same (ap append_of d) in cc)) refl (λ z. z)

  ack_waits : (m : ℕ) (y : Append) → at.slots m ≡ Waits y → WaitsOk g s h m y → WaitsOk g at h m y
  ack_waits m (Handoff b n nn) z v = record { pending = v.pending; pos = v.pos; drawn = v.drawn; taken = v.taken; absent = v.absent; base = v.base }
  ack_waits m (Commit y) z v = commit_kept g s at h h m y (ack_kept y.author y.producer) z v
  ack_waits m (Lines a b us) z v = record { own = v.own; lines = elim v.lines [ inl l ↦ inl (below_up (seen s a b).next (seen at a b).next us (next_up a b) l) | inr l ↦ inr l ] }
  ack_waits m (Ack a b d) z v = record {
    x = v.x;
    landed = v.landed;
    producer = v.producer;
    clock = v.clock;
    needed = v.needed;
    state = elim v.state [ inl l ↦ inl (let u = next_up a b in omega (arith, l, u)) | inr l ↦ inr l ];
  }

  ack_landed : (y : Append) → LandedOk s y → LandedOk at y
  ack_landed (Handoff b o nn) q = tt
  ack_landed (Commit z) q = tt
  ack_landed (Lines a b us) q = tt
  ack_landed (Ack a b d) q = ack_ins a (acknowledgement b d) q

  raised : (raise old.next c ≡ old.next) ⊎ ((cur h p ≡ Some aw.x) × (raise old.next c ≡ ack aw.x + 1))
  raised = elim state [
    | inl l ↦ inl (raise_low old.next c l)
    | inr z ↦ inr (z.0, raise_high old.next c (omega (arith, z.1, aw.clock)) ∙ ap (λ n. n + 1) (sym aw.clock))
  ]

  ack_rest : (a b : ℕ) → s.own b ≡ true → RestOk g at h a b
  ack_rest a b y0 = record {
    chain = by_which (λ a b r. s.own b ≡ true → (r.chain ≡ []) ⊎ ((y : Transaction) × (cur h b ≡ Some y) × (r.chain ≡ lines g y a) × (r.next ≤ y.first))) (λ _. inl refl) (λ a b z. (ok.rests a b z).chain) a b y0;
    level = by_which (λ a b r. s.own b ≡ true → r.next ≤ bound (cur h b))
        (λ _. elim raised [ inl z ↦ subst (λ n. n ≤ bound (cur h p)) (sym z) (ok.rests j p aown).level | inr z ↦ subst (λ o. raise old.next c ≤ bound o) (sym z.0) (omega (arith, z.1)) ])
        (λ a b z. (ok.rests a b z).level) a b y0;
    steps = by_which (λ a b r. s.own b ≡ true → (y : Transaction) → cur h b ≡ Some y → (r.next ≤ y.first) ⊎ (r.next ≡ ack y + 1))
        (λ _ y q. elim raised [
          | inl z ↦ elim ((ok.rests j p aown).steps y q) [ inl l ↦ inl (subst (λ n. n ≤ y.first) (sym z) l) | inr l ↦ inr (z ∙ l) ]
          | inr z ↦ inr (z.1 ∙ ap (λ v. ack v + 1) (some_same (sym z.0 ∙ q)))
        ])
        (λ a b z. (ok.rests a b z).steps) a b y0;
  }

  -- what the output's reader accepts
  grown : (read (at.outs j)).accepted ≡ (read (s.outs j)).accepted ++ up_to p c old.chain
  grown = ap (λ u. (read u).accepted) (upd_here s.outs j (acknowledgement p c ∷ s.outs j))

  same_accepted : c < old.next → (read (at.outs j)).accepted ≡ (read (s.outs j)).accepted
  same_accepted l = grown ∙ ap (λ v. (read (s.outs j)).accepted ++ v) (nothing l) ∙ append-nil (read (s.outs j)).accepted

  out_here : OutOk g s h j → OutOk g at h j
  out_here o = elim o [
    | inl a ↦ inl (record {
      accepted = ap (values_of s.own) (same_accepted (elim (in_settled g s.sources s.outs s.log aw.x ok.log aw.landed) [
        | inl z ↦ subst (λ n. c < (seen s j n).next) aw.producer (subst (λ n. n < (seen s j (aw.x).producer).next) aw.clock (ack_next (aw.x).producer (ack aw.x) (s.outs j) (a.acked aw.x z aw.needed)))
        | inr z ↦ ack_settled z
      ])) ∙ a.accepted;
      acked = λ y z n. ack_ins j (acknowledgement y.producer (ack y)) (a.acked y z n);
    })
    | inr a ↦ elim (cases_eq (a.x).producer p) [
      | inl q ↦ (let cl : c ≡ ack a.x = a.sole i c (e ∙ ap (λ v. Waits (Ack j v c)) (sym q)) in
          let ch : old.chain ≡ lines g a.x j = subst (λ n. (seen s j n).chain ≡ lines g a.x j) q a.chain in
          inl (record {
            accepted = ap (values_of s.own) grown ∙ own_join s.own (read (s.outs j)).accepted (up_to p c old.chain) ∙ ap (λ v. v ++ values_of s.own (up_to p c old.chain)) a.accepted
                ∙ ap (λ v. before g j s.log ++ v) (ap (λ v. values_of s.own (up_to p c v)) ch ∙ ap (λ n. values_of s.own (up_to p n (lines g a.x j))) cl ∙ tx_released s.own g a.x j p aown) ∙ want_last g j s.log a.x a.is_last;
            acked = λ y z n. subst (λ v. In (acknowledgement v.producer (ack v)) (at.outs j)) (some_same (sym a.is_last ∙ z))
                (subst (λ v. In (acknowledgement v (ack a.x)) (at.outs j)) (sym q) (subst (λ v. In (acknowledgement p v) (at.outs j)) cl ack_here));
          }))
      | inr q ↦ (let d = there j (a.x).producer (λ w. q w.1) in
          let l : c < old.next = elim (in_settled g s.sources s.outs s.log aw.x ok.log aw.landed) [
            | inl z ↦ absurd (q (ap (λ v. v.producer) (some_same (sym a.is_last ∙ z)) ∙ aw.producer))
            | inr z ↦ ack_settled z
          ] in
          inr (record {
            x = a.x;
            is_last = a.is_last;
            accepted = ap (values_of s.own) (same_accepted l) ∙ a.accepted;
            needed = a.needed;
            chain = ap (λ (x : Rest). x.chain) d ∙ a.chain;
            low = subst (λ (x : Rest). x.next ≤ (a.x).first) (sym d) a.low;
            current = a.current;
            sole = λ m b z. a.sole m b (still_waits g s h ok i ax e (Landed ax) (judged_landed ax) m (Ack j (a.x).producer b) z).1;
          }))
    ]
  ]

  out_there : (a : ℕ) → (a ≡ j → ⊥) → OutOk g at h a
  out_there a d = let same : at.outs a ≡ s.outs a = upd_other s.outs j (acknowledgement p c ∷ s.outs j) a d in elim (ok.outs a) [
    | inl o ↦ inl (record { accepted = ap (λ u. values_of s.own (read u).accepted) same ∙ o.accepted; acked = λ y z n. ack_ins a (acknowledgement y.producer (ack y)) (o.acked y z n) })
    | inr o ↦ inr (record {
      x = o.x;
      is_last = o.is_last;
      accepted = ap (λ u. values_of s.own (read u).accepted) same ∙ o.accepted;
      needed = o.needed;
      chain = ap (λ u. ((read u).rest (o.x).producer).chain) same ∙ o.chain;
      low = subst (λ u. ((read u).rest (o.x).producer).next ≤ (o.x).first) (sym same) o.low;
      current = o.current;
      sole = λ m b z. o.sole m b (still_waits g s h ok i ax e (Landed ax) (judged_landed ax) m (Ack a (o.x).producer b) z).1;
    })
  ]

  pub ack_shared : SharedOk g at h
  ack_shared = record {
    log = log_up g s.sources s.sources s.outs at.outs (up_refl g s.sources) ack_ins s.log ok.log;
    authors = ok.authors;
    commits = λ y q. let k = ok.commits y q in record { under = k.under; pos = k.pos; own = k.own; taken = k.taken; drawn = k.drawn; current = elim k.current [ inl z ↦ inl z | inr z ↦ inr (settled_up g s.outs at.outs ack_ins y z) ] };
    rests = ack_rest;
    outs = λ a. elim (cases_eq a j) [ inl z ↦ subst (OutOk g at h) (sym z) (out_here (ok.outs j)) | inr z ↦ out_there a z ];
    waits = λ m y z. ack_waits m y z (ok.waits m y (still_waits g s h ok i ax e (Landed ax) (judged_landed ax) m y z).1);
    landed = λ m y. upd_each s.slots i (Landed ax) (λ n r. r ≡ Landed y → LandedOk at y) (λ z. subst (LandedOk at) (some_same (ap append_of z)) ack_here) m (λ _ z. ack_landed y (ok.landed m y z));
    frees = ok.frees;
    fresh = fresh_on g s h ok i ax e (Landed ax) (judged_landed ax);
    register = ok.register;
    spoken = spoken_up g s at h h (λ y z. z) (λ p y z. z) (λ m y z. inl (still_held g s h ok i ax e (Landed ax) (judged_landed ax) m y z))
        (λ a m. upd_each s.outs j (acknowledgement p c ∷ s.outs j) (λ n u. In m u → s.own m.producer ≡ true → (In m (s.outs n) × (s.own m.producer ≡ true)) ⊎ TextAs g at h n m) (λ z y. elim z [
          | inl q ↦ inr (inr (ap (λ v. v.kind) q, ap (λ v. v.value) q, subst (λ v. Intent g at j v.producer v.clock) (sym q) ((ok.spoken).slots i ax (ap append_of e))))
          | inr q ↦ inl (q, y)
        ]) a (λ _ z y. inl (z, y)))
        (λ y z. inl z) ok.spoken;
    history = ok.history;
    undrawn = ok.undrawn;
    low = λ a m. upd_each s.outs j (acknowledgement p c ∷ s.outs j) (λ n u. In m u → Known g s m.producer) (λ z. elim z [
      | inl q ↦ subst (λ v. Known g s v.producer) (sym q) (inl (drawn_low g s h ok p aown))
      | inr q ↦ ok.low j m q
    ]) a (λ _ z. ok.low a m z);
    heard = λ a m. upd_each s.outs j (acknowledgement p c ∷ s.outs j) (λ n u. In m (read u).accepted → Known g s m.producer)
        (λ z. elim (in_join (read (s.outs j)).accepted (up_to p c old.chain) m z) [
          | inl q ↦ ok.heard j m q
          | inr q ↦ subst (Known g s) (sym (up_to_by p c old.chain m q)) (inl (drawn_low g s h ok p aown))
        ]) a (λ _ z. ok.heard a m z);
  }

  pub ack_proc : (m : ℕ) (q : Process) → ProcOk g s h m q → ProcOk g at h m q
  ack_proc m q o = other_or_own g s h ok i ax e at h m q (λ z. z) (omega arith) (λ _. ack_kept q.author q.producer) (λ _ r. absurd r) o
