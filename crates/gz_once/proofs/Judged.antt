-- An append that waited is judged. All others stay as they are; of the process whose handoff or commit it is, exactly its slot has
-- changed, in Handing or Sending.
use Rattle.std.proofs.Common.{◌≡◌, ℕ, ◌+◌, ◌<◌, ◌≤◌, List, refl, ap, sym, ◌∙◌, arith, Option, Some, None, subst, ◌⊎◌, inl, inr}
use Rattle.std.proofs.lemmas.Bool.{cases_lt}
use Rattle.gz_reader.specs.Lists.{In, Begins}
use Rattle.gz_reader.specs.Reader.{Line, Message, updated}
use Rattle.gz_once.specs.Applications.{App}
use Rattle.gz_once.specs.Log.{Transaction, ack, lines, needs, Entry, Handed, Committed, by, author_of, last, count, end_of}
use Rattle.gz_once.specs.Processes.{Append, Handoff, Commit, Lines, Ack, Phase, Playing, Handing, Acking, Drawing, Reading, Publishing, Committing, Sending, Process}
use Rattle.gz_once.specs.Worlds.{Slot, Free, Waits, Landed, Refused, Shared, append_of}
use Rattle.gz_reader.proofs.Updates.{some_same, none_some, upd_here, upd_other, upd_each}
use Rattle.gz_once.proofs.Logs.{Since}
use Rattle.gz_once.proofs.Facts.{Ghost, cur, seen, NoAcks, Stock, HandoffWaits, CommitWaits, HandOk, SendOk, Fits, PhaseOk, ProcOk, SharedOk}
use Rattle.gz_once.proofs.Frames.{Kept, OfLog, New, new}
use Rattle.gz_once.proofs.Moves.{waits_landed, waits_refused}
use Rattle.gz_once.proofs.Sends.{up_refl, free_held}

-- the slot says that x was judged
abbrev pub Judgement : Append → Slot → Type 0
Judgement x v = (append_of v ≡ Some x) × ((y : Append) → v ≡ Waits y → ⊥)

pub judged_landed : (x : Append) → Judgement x (Landed x)
judged_landed x = (refl, λ y e. cc)

pub judged_refused : (x : Append) → Judgement x (Refused x)
judged_refused x = (refl, λ y e. cc)

module _ (g : App) (s : Shared) (h : Ghost) (ok : SharedOk g s h) (i : ℕ) (x : Append) (e : s.slots i ≡ Waits x) (v : Slot) (jd : Judgement x v) where
  pub still_waits : (m : ℕ) (y : Append) → updated s.slots i v m ≡ Waits y → (m ≡ i → ⊥) × (s.slots m ≡ Waits y)
  still_waits m y = upd_each s.slots i v (λ n r. r ≡ Waits y → (n ≡ i → ⊥) × (s.slots n ≡ Waits y)) (λ z. absurd (jd.1 y z)) m (λ d z. (d, z))

  pub was_count : i < s.count
  was_count = elim (cases_lt i s.count) [ inl l ↦ l | inr l ↦ absurd (free_held (ok.fresh i l) (ap append_of e)) ]

  pub fresh_on : (m : ℕ) → s.count ≤ m → updated s.slots i v m ≡ Free
  fresh_on m l = upd_other s.slots i v m (λ z. let k = was_count in omega arith) ∙ ok.fresh m l

  -- what was said in appends stays
  pub still_held : (m : ℕ) (y : Append) → append_of (updated s.slots i v m) ≡ Some y → append_of (s.slots m) ≡ Some y
  still_held m y = upd_each s.slots i v (λ n r. append_of r ≡ Some y → append_of (s.slots n) ≡ Some y) (λ z. ap append_of e ∙ sym jd.0 ∙ z) m (λ _ z. z)

  pub judged_kept : (l : List Entry) (rg : ℕ) (o : ℕ → List Message) (f : ℕ → Option ℕ) (a p : ℕ) →
      (l ≡ s.log) ⊎ New s.log l a → ((j : ℕ) (m : Message) → In m (s.outs j) → In m (o j)) →
      (let t : Shared = record s { log = l; register = rg; outs = o; slots = updated s.slots i v } in
      (author_of l ≡ a → NoAcks s p → (y : Transaction) (j : ℕ) → cur h p ≡ Some y → y.producer ≡ p → Stock g s y j → Stock g t y j) →
      (author_of l ≡ a → NoAcks s p → (y : Transaction) (j : ℕ) → cur h p ≡ Some y → (seen s j p).next ≤ y.first → (seen t j p).next ≤ y.first) →
      (author_of l ≡ a → NoAcks s p → (y : Transaction) (j : ℕ) → cur h p ≡ Some y → y.producer ≡ p → (seen s j p).next ≤ y.first → v ≡ Landed (Lines j p (lines g y j)) → Stock g t y j) →
      f a ≡ h.pending a → (OfLog a x → ⊥) → Kept g s t h (record h { pending = f }) a p)
  judged_kept l rg o f a p new ins stock low lines pend other = record {
    log = new;
    outs = ins;
    sources = up_refl g s.sources;
    holds = λ m y. upd_each s.slots i v (λ n r. append_of (s.slots n) ≡ Some y → append_of r ≡ Some y) (λ z. jd.0 ∙ sym (ap append_of e) ∙ z) m (λ _ z. z);
    landed = λ m y z. upd_other s.slots i v m (λ q. waits_landed (sym e ∙ sym (ap s.slots q) ∙ z)) ∙ z;
    refused = λ m y z. upd_other s.slots i v m (λ q. waits_refused (sym e ∙ sym (ap s.slots q) ∙ z)) ∙ z;
    main = λ m y z q. upd_other s.slots i v m (λ r. other (subst (OfLog a) (some_same (ap append_of (sym z ∙ ap s.slots r ∙ e))) q)) ∙ z;
    acks = λ u m j c z. (still_waits m (Ack j p c) z).1;
    stock = stock;
    low = low;
    lines = λ u q y j m z d b. upd_each s.slots i v (λ n r. r ≡ Landed (Lines j p (lines_of y j)) → (s.slots n ≡ Landed (Lines j p (lines_of y j))) ⊎ Stock g (record s { log = l; register = rg; outs = o; slots = updated s.slots i v }) y j)
        (λ r. inr (lines u q y j z d b r)) m (λ _ r. inl r);
    pending = pend;
    begun = refl;
    holder = (refl, refl);
    under = refl;
    drawn = omega arith;
    own = λ b z. z;
    taken = (λ z. z, λ z. z);
  }
    where
      lines_of : Transaction → ℕ → List Line
      lines_of y j = Rattle.gz_once.specs.Log.lines g y j

  -- the process that waits for it
  pub involved : (l : List Entry) (rg b m : ℕ) (q : Process) → (h.pending b ≡ Some i) → q.author ≡ b → 0 < q.author →
      (let t : Shared = record s { log = l; register = rg; slots = updated s.slots i v } in let k : Ghost = record h { pending = updated h.pending b None } in
      (x ≡ Handoff q.author (end_of q.text) (count q.text + 1) → Begins q.text s.log → Begins q.text l × HandOk t k q v) →
      ((y : Transaction) → x ≡ Commit y → Fits g s h q.text q.author q.producer y → Since q.author q.text s.log → SendOk g t k q y v) →
      ProcOk g s h m q → ProcOk g t k m q)
  involved l rg b m q pend own pos hand send o = let d = o.draws in
      record { draws = record { author = d.author; holder = d.holder; under = d.under; pos = d.pos; own = d.own; taken = d.taken }; phase = by_phase q.phase o.phase }
    where
      t : Shared
      t = record s { log = l; register = rg; slots = updated s.slots i v }

      k : Ghost
      k = record h { pending = updated h.pending b None }

      not_none : h.pending q.author ≡ None → ⊥
      not_none z = none_some (sym z ∙ ap h.pending own ∙ pend)

      hands : (n : ℕ) (r : Slot) → s.slots n ≡ r → Begins q.text s.log → HandOk s h q r → Begins q.text l × HandOk (record s { log = l; register = rg; slots = updated s.slots i v }) (record h { pending = updated h.pending b None }) q (updated s.slots i v n)
      hands n Free z c w = absurd w
      hands n (Landed y) z c w = absurd (not_none w.0)
      hands n (Refused y) z c w = absurd (not_none w.0)
      hands n (Waits y) z c w =
          let u : HandoffWaits s h n q.author (end_of q.text) (count q.text + 1) = ok.waits n (Handoff q.author (end_of q.text) (count q.text + 1)) (z ∙ ap Waits w) in
          let ni : n ≡ i = some_same (sym u.pending ∙ ap h.pending own ∙ pend) in
          let xy : x ≡ Handoff q.author (end_of q.text) (count q.text + 1) = some_same (ap append_of (sym e ∙ ap s.slots (sym ni) ∙ z)) ∙ w in
          let r = hand xy c in
          (r.0, subst (HandOk (record s { log = l; register = rg; slots = updated s.slots i v }) (record h { pending = updated h.pending b None }) q) (sym (ap (updated s.slots i v) ni ∙ upd_here s.slots i v)) r.1)

      commits : (y : Transaction) (n : ℕ) (r : Slot) → s.slots n ≡ r → Fits g s h q.text q.author q.producer y → SendOk g s h q y r → SendOk g (record s { log = l; register = rg; slots = updated s.slots i v }) (record h { pending = updated h.pending b None }) q y (updated s.slots i v n)
      commits y n Free z f w = absurd w
      commits y n (Landed c) z f w = absurd (not_none w.0)
      commits y n (Refused c) z f w = absurd (not_none w.0)
      commits y n (Waits c) z f w =
          let u : CommitWaits g s h n y = ok.waits n (Commit y) (z ∙ ap Waits w.0) in
          let ni : n ≡ i = some_same (sym u.pending ∙ ap h.pending (f.author ∙ own) ∙ pend) in
          let xy : x ≡ Commit y = some_same (ap append_of (sym e ∙ ap s.slots (sym ni) ∙ z)) ∙ w.0 in
          subst (SendOk g (record s { log = l; register = rg; slots = updated s.slots i v }) (record h { pending = updated h.pending b None }) q y) (sym (ap (updated s.slots i v) ni ∙ upd_here s.slots i v)) (send y xy f w.1)

      by_phase : (f : Phase) → PhaseOk g s h q f → PhaseOk g (record s { log = l; register = rg; slots = updated s.slots i v }) (record h { pending = updated h.pending b None }) q f
      by_phase Playing c = absurd (not_none (c.1 pos).0)
      by_phase (Handing n) c = let r = hands n (s.slots n) refl c.1 c.3 in (c.0, r.0, record { own = (c.2).own; next = (c.2).next }, r.1)
      by_phase Acking c = absurd (not_none (c.1).pending)
      by_phase Drawing c = absurd (not_none (c.1).pending)
      by_phase Reading c = absurd (not_none (c.1).pending)
      by_phase (Publishing y) c = absurd (not_none (c.1).pending)
      by_phase (Committing y) c = absurd (not_none (c.1).pending)
      by_phase (Sending y n) c = let f = c.2 in (c.0, c.1, record { author = f.author; producer = f.producer; seq = f.seq; current = f.current; follows = f.follows; settled = f.settled }, commits y n (s.slots n) refl f c.3)
