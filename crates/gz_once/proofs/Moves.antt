-- Phase by phase, the steps of a process that send nothing: it is fed the log, an answer comes, an answer is given up, a phase
-- ends, and it begins anew after a crash.
use Rattle.std.proofs.Common.{◌≡◌, ℕ, ◌+◌, List, [], ◌∷◌, length, refl, ap, sym, ◌∙◌, arith, Bool, true, false, Option, Some, None, subst, inl, inr, ◌||◌, not}
use Rattle.std.proofs.lemmas.Bool.{cond_both, false≢true, true≢false}
use Rattle.gz_reader.specs.Lists.{In, Begins}
use Rattle.gz_reader.specs.Reader.{updated, acknowledgement}
use Rattle.gz_once.specs.Applications.{App, prefix}
use Rattle.gz_once.specs.Log.{Transaction, ack, lines, needs, Handed, Committed, last, count}
use Rattle.gz_once.specs.Processes.{Append, Lines, Ack, Stand, Todo, Asked, Done, Phase, Playing, Handing, Acking, Drawing, Reading, Publishing, Committing, Sending, Process, Outcome, is_done, all_in, on_fed, on_go, on_good, on_bad, on_lost, on_good_at, on_bad_at, on_lost_at, begins}
use Rattle.gz_once.specs.Worlds.{Slot, Free, Waits, Landed, Refused, Shared, append_of}
use Rattle.gz_reader.proofs.Updates.{some_same, none_some, upd_each}
use Rattle.gz_once.proofs.Texts.{each_at}
use Rattle.gz_once.proofs.TxLines.{needs_less}
use Rattle.gz_once.proofs.Texts.{prefix_begins}
use Rattle.gz_once.proofs.Logs.{Absent, Settled, since_begins, ok_begins, in_since, absent_in}
use Rattle.gz_once.proofs.Facts.{Ghost, bound, NoAcks, HandOk, SendOk, AckStand, PubStand, Unused, Fits, PhaseOk, Draws, ProcOk, SharedOk, CommitOk, AckWaits}

pub begins_nil : {A : Type 0} (es : List A) → Begins [] es
begins_nil [] = refl
begins_nil (e ∷ es) = inr (begins_nil es)

pub begins_tail : {A : Type 0} (e : A) (u es : List A) → Begins (e ∷ u) es → Begins u es
begins_tail e u [] b = absurd (let l : length (e ∷ u) ≡ 0 = ap length b in omega arith)
begins_tail e u (f ∷ es) b = elim b [ inl x ↦ inr (subst (λ l. Begins u l) (tail_same x) (begins_refl_ u)) | inr c ↦ inr (begins_tail e u es c) ]
  where
    tail_same : (e ∷ u ≡ f ∷ es) → u ≡ es
    tail_same x = cc

    begins_refl_ : {A : Type 0} (v : List A) → Begins v v
    begins_refl_ [] = refl
    begins_refl_ (y ∷ v) = inl refl

done_is : (v : Stand) → is_done v ≡ true → v ≡ Done
done_is Todo e = absurd (false≢true e)
done_is (Asked i) e = absurd (false≢true e)
done_is Done e = refl

or_right : (a b : Bool) → (not a || b) ≡ true → a ≡ true → b ≡ true
or_right true b e f = e
or_right false b e f = absurd (false≢true f)

pub all_done : (g : App) (outs : ℕ → Stand) (x : Transaction) → all_in g outs (Some x) ≡ true → (j : ℕ) → needs g x j ≡ true → outs j ≡ Done
all_done g outs x e j n = done_is (outs j) (or_right (needs g x j) (is_done (outs j)) (each_at g.outputs (λ i. not (needs g x i) || is_done (outs i)) e j (needs_less g x j n)) n)

asked_done : (i : ℕ) → Asked i ≡ Done → ⊥
asked_done i e = cc

asked_same : (i n : ℕ) → Asked i ≡ Asked n → i ≡ n
asked_same i n e = cc

pub waits_landed : {x y : Append} → Waits x ≡ Landed y → ⊥
waits_landed {x = x} {y = y} e = cc

pub waits_refused : {x y : Append} → Waits x ≡ Refused y → ⊥
waits_refused {x = x} {y = y} e = cc

module _ (g : App) (s : Shared) (h : Ghost) (ok : SharedOk g s h) (p : ℕ) where
  pub made : (q : Process) (f : Phase) → q.phase ≡ f → Draws s h p q.author q.producer → PhaseOk g s h q f → ProcOk g s h p q
  made q f e d o = record { draws = d; phase = subst (PhaseOk g s h q) (sym e) o }

  -- an acknowledgement that waits is of a commit in the log by the author of its producer
  pub ack_author : (i j a c q : ℕ) → h.under q ≡ a → s.slots i ≡ Waits (Ack j q c) → (x : Transaction) × In (Committed x) s.log × (x.author ≡ a) × (x.producer ≡ q)
  ack_author i j a c q u e =
      let w : AckWaits g s h j q c = ok.waits i (Ack j q c) e in
      let m : CommitOk g s h w.x = ok.commits w.x w.landed in
      (w.x, w.landed, sym m.under ∙ ap h.under w.producer ∙ u, w.producer)

  -- nothing of an author that isn't in the log waits to be acknowledged
  pub absent_quiet : (a q : ℕ) → h.under q ≡ a → Absent a s.log → NoAcks s q
  absent_quiet a q u n i j c e = let w = ack_author i j a c q u e in absent_in a s.log w.0 n w.1 w.2

  pub fed_ok : (q : Process) (n : ℕ) (f : Phase) → q.phase ≡ f → Draws s h p q.author q.producer → PhaseOk g s h q f → ProcOk g s h p (on_fed q (prefix n s.log) f).proc
  fed_ok q n Playing e d o = made (record q { text = prefix n s.log }) Playing e d (prefix_begins n s.log, o.1)
  fed_ok q n f e d o = made q f e d o

  settles : (q : Process) (l : Option Transaction) → all_in g q.outs l ≡ true → ((j : ℕ) → AckStand g s l j (q.outs j)) → (x : Transaction) → l ≡ Some x → Settled g s.outs x
  settles q None e a x i j n = absurd (none_some i)
  settles q (Some y) e a x i j n =
      let d : q.outs j ≡ Done = all_done g q.outs y e j (ap (λ z. needs g z j) (some_same i) ∙ n) in
      let b : AckStand g s (Some y) j Done = subst (AckStand g s (Some y) j) d (a j) in
      b x i n

  quiets : (q : Process) (l : Option Transaction) → all_in g q.outs l ≡ true → ((j : ℕ) → AckStand g s l j (q.outs j)) → (j i : ℕ) → q.outs j ≡ Asked i → ⊥
  quiets q None e a j i f = let b : AckStand g s None j (Asked i) = subst (AckStand g s None j) f (a j) in none_some b.1
  quiets q (Some y) e a j i f =
      let b : AckStand g s (Some y) j (Asked i) = subst (AckStand g s (Some y) j) f (a j) in
      asked_done i (sym f ∙ all_done g q.outs y e j (ap (λ z. needs g z j) (some_same b.1) ∙ b.2))

  pub go_ok : (q : Process) (f : Phase) → q.phase ≡ f → Draws s h p q.author q.producer → PhaseOk g s h q f → ProcOk g s h p (on_go g q f).proc
  go_ok q Acking e d o = cond_both (all_in g q.outs (last q.text)) _ _ (λ (r : Outcome). ProcOk g s h p r.proc)
      (λ a. cond_both q.doubt Drawing Reading (λ f. ProcOk g s h p (record q { phase = f }))
      (λ _. made (record q { phase = Drawing }) Drawing refl d (o.0, o.1, settles q (last q.text) a o.3))
      (λ b. made (record q { phase = Reading }) Reading refl d (o.0, o.1, settles q (last q.text) a o.3, o.2, λ u i j c w. quiets q (last q.text) a o.3 j i (o.4 b u i j c w))))
      (λ _. made q Acking e d o)
  go_ok q (Publishing x) e d o = cond_both (all_in g q.outs (Some x)) _ _ (λ (r : Outcome). ProcOk g s h p r.proc)
      (λ a. made (record q { phase = Committing x }) (Committing x) refl d (
        o.0,
        o.1,
        o.2,
        o.3,
        λ u j n.
            (let b : PubStand g s q x j Done = subst (PubStand g s q x j) (all_done g q.outs x a j n) (o.4 j) in b u n),
      ))
      (λ _. made q (Publishing x) e d o)
  go_ok q f e d o = made q f e d o

  pub good_ok : (q : Process) (f : Phase) (a : Append) → q.phase ≡ f → ((n : ℕ) → Rattle.gz_once.specs.Worlds.outstanding f ≡ Some n → s.slots n ≡ Landed a) →
      Draws s h p q.author q.producer → PhaseOk g s h q f → ProcOk g s h p (on_good q f).proc
  good_ok q (Handing n) a e w d o =
      let t = Handed q.author (count q.text + 1) ∷ q.text in
      let m : HandOk s h q (Landed a) = subst (HandOk s h q) (w n refl) o.3 in
      let v : Unused h q.producer q.clock = o.2 in
      made (record q { text = t; phase = Acking; doubt = false; outs = λ j. Todo }) Acking refl d (
        o.0,
        record { since = m.1; author = refl; pending = m.0 },
        record { own = inl v.own; next = v.next ∙ sym (ap bound v.own) },
        λ j. tt,
        λ _ _ i j c z. absurd (
            let x = ack_author i j q.author c q.producer (d.under o.0) z in
            let b = ok_begins g s.sources s.outs t s.log (since_begins q.author t s.log m.1) ok.log in
            let k : In (Committed x.0) t = in_since q.author t s.log x.0 m.1 x.1 x.2 in
            elim k [ inl y ↦ (let y' : Committed x.0 ≡ Handed q.author (count q.text + 1) = y in cc) | inr y ↦ absent_in q.author q.text x.0 b.1 y x.2 ]),
      )
  good_ok q (Sending x n) a e w d o =
      let m : SendOk g s h q x (Landed a) = subst (SendOk g s h q x) (w n refl) o.3 in
      let f : Fits g s h q.text q.author q.producer x = o.2 in
      made (record q { text = Committed x ∷ q.text; clock = ack x + 1; phase = Acking; doubt = false; outs = λ j. Todo }) Acking refl d
      (o.0, record { since = m.1; author = o.1; pending = m.0 }, record { own = inr f.current; next = sym (ap bound f.current) }, λ j. tt, λ _ u i j c z. absurd (m.2 u i j c z))
  good_ok q f a e w d o = made q f e d o

  pub bad_ok : (q : Process) (f : Phase) (a : Append) → q.phase ≡ f → ((n : ℕ) → Rattle.gz_once.specs.Worlds.outstanding f ≡ Some n → s.slots n ≡ Refused a) →
      Draws s h p q.author q.producer → PhaseOk g s h q f → ProcOk g s h p (on_bad q f).proc
  bad_ok q (Handing n) a e w d o =
      let m : HandOk s h q (Refused a) = subst (HandOk s h q) (w n refl) o.3 in
      made (record q { phase = Playing }) Playing refl d (o.1, λ _. (m.0, m.1, o.2))
  bad_ok q (Sending x n) a e w d o =
      let m : SendOk g s h q x (Refused a) = subst (SendOk g s h q x) (w n refl) o.3 in
      made (record q { phase = Committing x }) (Committing x) refl d (o.0, record { since = m.1; author = o.1; pending = m.0 }, o.2, m.2, m.3)
  bad_ok q f a e w d o = made q f e d o

  -- a process that gives up holds no author
  gone : (q : Process) → Draws s h p q.author q.producer → Draws s h p 0 q.producer
  gone q d = record { author = (omega arith, (d.author).1); holder = λ l. absurd (omega arith); under = λ l. absurd (omega arith); pos = λ l. absurd (omega arith); own = λ l. absurd (omega arith); taken = λ l. absurd (omega arith) }

  send_begins : (q : Process) (x : Transaction) (v : Slot) → SendOk g s h q x v → Begins q.text s.log
  send_begins q x Free o = absurd o
  send_begins q x (Waits y) o = since_begins q.author q.text s.log o.1
  send_begins q x (Landed y) o = begins_tail (Committed x) q.text s.log (since_begins q.author (Committed x ∷ q.text) s.log o.1)
  send_begins q x (Refused y) o = since_begins q.author q.text s.log o.1

  pub lost_ok : (q : Process) (f : Phase) → q.phase ≡ f → Draws s h p q.author q.producer → PhaseOk g s h q f → ProcOk g s h p (on_lost q f).proc
  lost_ok q (Handing n) e d o = made (record q { author = 0; phase = Playing }) Playing refl (gone q d) (o.1, λ l. absurd (omega arith))
  lost_ok q (Sending x n) e d o = made (record q { author = 0; phase = Playing }) Playing refl (gone q d) (send_begins q x (s.slots n) o.3, λ l. absurd (omega arith))
  lost_ok q f e d o = made q f e d o

  -- the other outputs stay
  quiet_upd : (q : Process) (j n : ℕ) (v : Stand) → q.outs j ≡ Asked n → ((x : Append) → s.slots n ≡ Waits x → ⊥) →
      (i k c : ℕ) → s.slots i ≡ Waits (Ack k q.producer c) → q.outs k ≡ Asked i → updated q.outs j v k ≡ Asked i
  quiet_upd q j n v a d i k c w b = upd_each q.outs j v (λ m r. k ≡ m → r ≡ Asked i)
      (λ e. absurd (let f : i ≡ n = asked_same i n (sym b ∙ ap q.outs e ∙ a) in d (Ack k q.producer c) (sym (ap s.slots f) ∙ w))) k (λ _ _. b) refl

  pub good_at_ok : (q : Process) (j n : ℕ) (a : Append) (f : Phase) → q.phase ≡ f → q.outs j ≡ Asked n → s.slots n ≡ Landed a →
      Draws s h p q.author q.producer → PhaseOk g s h q f → ProcOk g s h p (on_good_at q j f).proc
  good_at_ok q j n a Acking e b w d o =
      let k : AckStand g s (last q.text) j (Asked n) = subst (AckStand g s (last q.text) j) b (o.3 j) in
      let m : a ≡ Ack j (k.0).producer (ack k.0) = some_same (sym (ap append_of w) ∙ k.3) in
      let l : In (acknowledgement (k.0).producer (ack k.0)) (s.outs j) = ok.landed n (Ack j (k.0).producer (ack k.0)) (w ∙ ap Landed m) in
      made (record q { outs = updated q.outs j Done }) Acking e d (
        o.0,
        o.1,
        o.2,
        λ i. upd_each q.outs j Done (AckStand g s (last q.text)) (λ x z _. subst (λ y. In (acknowledgement y.producer (ack y)) (s.outs j)) (some_same (sym k.1 ∙ z)) l) i (λ _. o.3 i),
        λ t u i r c z. quiet_upd q j n Done b (λ x v. waits_landed (sym v ∙ w)) i r c z (o.4 t u i r c z),
      )
  good_at_ok q j n a (Publishing x) e b w d o =
      let k : PubStand g s q x j (Asked n) = subst (PubStand g s q x j) b (o.4 j) in
      let m : a ≡ Lines j q.producer (lines g x j) = some_same (sym (ap append_of w) ∙ k.0) in
      made (record q { outs = updated q.outs j Done }) (Publishing x) e d (
        o.0,
        o.1,
        o.2,
        o.3,
        λ i. upd_each q.outs j Done (PubStand g s q x) (λ u. k.1 u (w ∙ ap Landed m)) i (λ _. o.4 i),
        o.5,
      )
  good_at_ok q j n a f e b w d o = made q f e d o

  pub bad_at_ok : (q : Process) (j n : ℕ) (a : Append) (f : Phase) → q.phase ≡ f → q.outs j ≡ Asked n → s.slots n ≡ Refused a →
      Draws s h p q.author q.producer → PhaseOk g s h q f → ProcOk g s h p (on_bad_at q j f).proc
  bad_at_ok q j n a Acking e b w d o =
      made (record q { outs = updated q.outs j Todo }) Acking e d (
        o.0,
        o.1,
        o.2,
        λ i. upd_each q.outs j Todo (AckStand g s (last q.text)) tt i (λ _. o.3 i),
        λ t u i r c z. quiet_upd q j n Todo b (λ x v. waits_refused (sym v ∙ w)) i r c z (o.4 t u i r c z),
      )
  bad_at_ok q j n a (Publishing x) e b w d o =
      made (record q { outs = updated q.outs j Todo }) (Publishing x) e d (o.0, o.1, o.2, o.3, λ i. upd_each q.outs j Todo (PubStand g s q x) tt i (λ _. o.4 i), o.5)
  bad_at_ok q j n a f e b w d o = made q f e d o

  pub lost_at_ok : (q : Process) (j : ℕ) (f : Phase) → q.phase ≡ f → Draws s h p q.author q.producer → PhaseOk g s h q f → ProcOk g s h p (on_lost_at q j f).proc
  lost_at_ok q j Acking e d o =
      made (record q { outs = updated q.outs j Todo; doubt = true }) Acking e d (
        o.0,
        o.1,
        o.2,
        λ i. upd_each q.outs j Todo (AckStand g s (last q.text)) tt i (λ _. o.3 i),
        λ t. absurd (true≢false t),
      )
  lost_at_ok q j (Publishing x) e d o =
      made (record q { outs = updated q.outs j Todo }) (Publishing x) e d (o.0, o.1, o.2, o.3, λ i. upd_each q.outs j Todo (PubStand g s q x) tt i (λ _. o.4 i), o.5)
  lost_at_ok q j f e d o = made q f e d o

  pub begin_ok : ProcOk g s h p begins
  begin_ok = record {
    draws = record { author = (omega arith, omega arith); holder = λ l. absurd (omega arith); under = λ l. absurd (omega arith); pos = λ l. absurd (omega arith); own = λ l. absurd (omega arith); taken = λ l. absurd (omega arith) };
    phase = (begins_nil s.log, λ l. absurd (omega arith));
  }
