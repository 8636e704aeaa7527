-- What others do: a message of another producer comes into an output, and another one's draw.
use Rattle.std.proofs.Common.{◌≡◌, ℕ, ◌<◌, ◌≤◌, ◌∷◌, ◌++◌, refl, ap, sym, ◌∙◌, arith, true, false, Some, subst, ◌⊎◌, inl, inr, append-nil}
use Rattle.std.proofs.lemmas.Bool.{cases_eq, true≢false}
use Rattle.gz_reader.specs.Lists.{In}
use Rattle.gz_reader.specs.Reader.{Message, Rest, read, updated, acknowledgement}
use Rattle.gz_once.specs.Applications.{App}
use Rattle.gz_once.specs.Log.{Transaction, ack, Committed, last}
use Rattle.gz_once.specs.Processes.{Append, Handoff, Commit, Lines, Ack, Process}
use Rattle.gz_once.specs.Worlds.{Waits, Shared}
use Rattle.gz_reader.specs.Reader.{values_of}
use Rattle.gz_reader.proofs.Updates.{upd_each}
use Rattle.gz_reader.proofs.Appends.{Below, own_join, own_none, other_rest, released_by}
use Rattle.gz_once.proofs.Logs.{log_up, settled_up, last_in}
use Rattle.gz_once.proofs.Facts.{Ghost, cur, bound, seen, WaitsOk, LandedOk, ProcOk, TextAs, SharedOk, Known}
use Rattle.gz_once.proofs.Frames.{Kept, spoken_up, proc_kept, idle_kept, commit_kept}
use Rattle.gz_once.proofs.Sends.{up_refl}
use Rattle.gz_once.proofs.Outputs.{in_join}

module _ (g : App) (s : Shared) (h : Ghost) (ok : SharedOk g s h) (j : ℕ) (n : Message) (not_own : s.own n.producer ≡ false) (drawn : Known g s n.producer) where
  abbrev t : Shared
  t = record s { outs = updated s.outs j (n ∷ s.outs j) }

  -- readers have the same of the shard's producers
  there : (a b : ℕ) → s.own b ≡ true → seen t a b ≡ seen s a b
  there a b o = upd_each s.outs j (n ∷ s.outs j) (λ m u. (read u).rest b ≡ (read (s.outs m)).rest b)
      (other_rest (read (s.outs j)) n b (λ z. true≢false (sym o ∙ ap s.own z ∙ not_own))) a (λ _. refl)

  values : (a : ℕ) → values_of s.own (read (t.outs a)).accepted ≡ values_of s.own (read (s.outs a)).accepted
  values a = upd_each s.outs j (n ∷ s.outs j) (λ m u. values_of s.own (read u).accepted ≡ values_of s.own (read (s.outs m)).accepted)
      (let r = released_by (read (s.outs j)) n in
      ap (values_of s.own) r.1 ∙ own_join s.own (read (s.outs j)).accepted r.0 ∙ ap (λ v. values_of s.own (read (s.outs j)).accepted ++ v) (own_none s.own r.0 n.producer not_own r.2)
      ∙ append-nil (values_of s.own (read (s.outs j)).accepted)) a (λ _. refl)

  ins : (a : ℕ) (m : Message) → In m (s.outs a) → In m (t.outs a)
  ins a m = upd_each s.outs j (n ∷ s.outs j) (λ b u. In m (s.outs b) → In m u) (λ z. inr z) a (λ _ z. z)

  other_kept : (a p : ℕ) → s.own p ≡ true → Kept g s t h h a p
  other_kept a p o = record {
    log = inl refl;
    outs = ins;
    sources = up_refl g s.sources;
    holds = λ i x z. z;
    landed = λ i x z. z;
    refused = λ i x z. z;
    main = λ i x z _. z;
    acks = λ u i j c z. z;
    stock = λ u q x c z w st m. let r = st m in let d = there c x.producer (ap s.own w ∙ o) in (ap (λ (v : Rest). v.chain) d ∙ r.0, subst (λ (v : Rest). v.next ≤ x.first) (sym d) r.1);
    low = λ u q x c z l. subst (λ (v : Rest). v.next ≤ x.first) (sym (there c p o)) l;
    lines = λ u q x j i z w l m. inl m;
    pending = refl;
    begun = refl;
    holder = (refl, refl);
    under = refl;
    drawn = omega arith;
    own = λ b z. z;
    taken = (λ z. z, λ z. z);
  }

  other_waits : (i : ℕ) (y : Append) → s.slots i ≡ Waits y → WaitsOk g s h i y → WaitsOk g t h i y
  other_waits i (Handoff b o nn) z w = record { pending = w.pending; pos = w.pos; drawn = w.drawn; taken = w.taken; absent = w.absent; base = w.base }
  other_waits i (Commit y) z w = commit_kept g s t h h i y (other_kept y.author y.producer w.own) z w
  other_waits i (Lines a p ls) z w = record { own = w.own; lines = elim w.lines [ inl l ↦ inl (subst (λ (v : Rest). Below v.next ls) (sym (there a p w.own)) l) | inr l ↦ inr l ] }
  other_waits i (Ack a p c) z w = let o : s.own p ≡ true = ap s.own (sym w.producer) ∙ (ok.commits w.x w.landed).own in
      record {
        x = w.x;
        landed = w.landed;
        producer = w.producer;
        clock = w.clock;
        needed = w.needed;
        state = elim w.state [ inl l ↦ inl (subst (λ (v : Rest). c < v.next) (sym (there a p o)) l) | inr l ↦ inr l ];
      }

  other_landed : (y : Append) → LandedOk s y → LandedOk t y
  other_landed (Handoff b o nn) q = tt
  other_landed (Commit z) q = tt
  other_landed (Lines a b us) q = tt
  other_landed (Ack a b c) q = ins a (acknowledgement b c) q

  pub other_shared : SharedOk g t h
  other_shared = record {
    log = log_up g s.sources s.sources s.outs t.outs (up_refl g s.sources) ins s.log ok.log;
    register = ok.register;
    authors = ok.authors;
    commits = λ y q. let c = ok.commits y q in record { under = c.under; pos = c.pos; own = c.own; taken = c.taken; drawn = c.drawn; current = elim c.current [ inl z ↦ inl z | inr z ↦ inr (settled_up g s.outs t.outs ins y z) ] };
    rests = λ a p o. let r = ok.rests a p o in let e = there a p o in record {
      chain = elim r.chain [ inl z ↦ inl (ap (λ (v : Rest). v.chain) e ∙ z) | inr z ↦ inr (z.0, z.1, ap (λ (v : Rest). v.chain) e ∙ z.2, subst (λ (v : Rest). v.next ≤ (z.0).first) (sym e) z.3) ];
      level = subst (λ (v : Rest). v.next ≤ bound (cur h p)) (sym e) r.level;
      steps = λ y c. elim (r.steps y c) [ inl l ↦ inl (subst (λ (v : Rest). v.next ≤ y.first) (sym e) l) | inr l ↦ inr (ap (λ (v : Rest). v.next) e ∙ l) ];
    };
    outs = λ a. elim (ok.outs a) [
      | inl o ↦ inl (record { accepted = values a ∙ o.accepted; acked = λ y z m. ins a (acknowledgement y.producer (ack y)) (o.acked y z m) })
      | inr o ↦ (let own : s.own (o.x).producer ≡ true = (ok.commits o.x (last_is o.x o.is_last)).own in
          let e = there a (o.x).producer own in
          inr (record {
            x = o.x;
            is_last = o.is_last;
            accepted = values a ∙ o.accepted;
            needed = o.needed;
            chain = ap (λ (v : Rest). v.chain) e ∙ o.chain;
            low = subst (λ (v : Rest). v.next ≤ (o.x).first) (sym e) o.low;
            current = o.current;
            sole = o.sole;
          }))
    ];
    waits = λ i y z. other_waits i y z (ok.waits i y z);
    landed = λ i y z. other_landed y (ok.landed i y z);
    frees = ok.frees;
    fresh = ok.fresh;
    spoken = spoken_up g s t h h (λ y z. z) (λ p y z. z) (λ m y z. inl z)
        (λ a m. upd_each s.outs j (n ∷ s.outs j) (λ b u. In m u → s.own m.producer ≡ true → (In m (s.outs b) × (s.own m.producer ≡ true)) ⊎ TextAs g t h b m)
        (λ z y. elim z [ inl q ↦ absurd (true≢false (sym y ∙ ap (λ v. s.own v.producer) q ∙ not_own)) | inr q ↦ inl (q, y) ]) a (λ _ z y. inl (z, y)))
        (λ y z. inl z) ok.spoken;
    history = ok.history;
    undrawn = ok.undrawn;
    low = λ a m. upd_each s.outs j (n ∷ s.outs j) (λ b u. In m u → Known g s m.producer) (λ z. elim z [ inl q ↦ subst (λ v. Known g s v.producer) (sym q) drawn | inr q ↦ ok.low j m q ]) a (λ _ z. ok.low a m z);
    heard = λ a m. upd_each s.outs j (n ∷ s.outs j) (λ b u. In m (read u).accepted → Known g s m.producer)
        (λ z. let r = released_by (read (s.outs j)) n in elim (in_join (read (s.outs j)).accepted r.0 m (subst (In m) r.1 z)) [
          | inl q ↦ ok.heard j m q
          | inr q ↦ subst (Known g s) (sym (r.2 m q)) drawn
        ]) a (λ _ z. ok.heard a m z);
  }
    where
      last_is : (x : Transaction) → last s.log ≡ Some x → In (Committed x) s.log
      last_is x e = last_in s.log x e

  pub other_proc : (p : ℕ) (q : Process) → ProcOk g s h p q → ProcOk g t h p q
  other_proc p q o = elim (cases_eq q.author 0) [
    | inl z ↦ idle_kept g s t h h p q z (λ b. b) (omega arith) o
    | inr z ↦ proc_kept g s t h h q (other_kept q.author q.producer ((o.draws).own (omega (arith, z)))) p o
  ]

-- another one's draw
module _ (g : App) (s : Shared) (h : Ghost) (ok : SharedOk g s h) (d : ℕ) (higher : s.drawn < d) where
  abbrev ts : Shared
  ts = record s { drawn = d }

  skip_kept : (a p : ℕ) → Kept g s ts h h a p
  skip_kept a p = record {
    log = inl refl;
    outs = λ j m z. z;
    sources = up_refl g s.sources;
    holds = λ i x z. z;
    landed = λ i x z. z;
    refused = λ i x z. z;
    main = λ i x z _. z;
    acks = λ u i j c z. z;
    stock = λ u q x j z w m. m;
    low = λ u q x j z l. l;
    lines = λ u q x j i z w l m. inl m;
    pending = refl;
    begun = refl;
    holder = (refl, refl);
    under = refl;
    drawn = omega (arith, higher);
    own = λ b z. z;
    taken = (λ z. z, λ z. z);
  }

  skip_waits : (i : ℕ) (y : Append) → s.slots i ≡ Waits y → WaitsOk g s h i y → WaitsOk g ts h i y
  skip_waits i (Handoff b o nn) z w = record { pending = w.pending; pos = w.pos; drawn = omega (arith, w.drawn, higher); taken = w.taken; absent = w.absent; base = w.base }
  skip_waits i (Commit y) z w = commit_kept g s ts h h i y (skip_kept y.author y.producer) z w
  skip_waits i (Lines j p ls) z w = record { own = w.own; lines = w.lines }
  skip_waits i (Ack j p c) z w = record { x = w.x; landed = w.landed; producer = w.producer; clock = w.clock; needed = w.needed; state = w.state }

  skip_landed : (y : Append) → LandedOk s y → LandedOk ts y
  skip_landed (Handoff b o nn) q = tt
  skip_landed (Commit z) q = tt
  skip_landed (Lines a b us) q = tt
  skip_landed (Ack a b c) q = q

  pub skip_shared : SharedOk g ts h
  skip_shared = record {
    log = ok.log;
    register = ok.register;
    authors = λ e i. let l = ok.authors e i in (omega (arith, l.0, higher), l.1);
    commits = λ y i. let c = ok.commits y i in record { under = c.under; pos = c.pos; own = c.own; taken = c.taken; drawn = omega (arith, c.drawn, higher); current = c.current };
    rests = λ j n z. let r = ok.rests j n z in record { chain = r.chain; level = r.level; steps = r.steps };
    outs = λ j. elim (ok.outs j) [
      | inl o ↦ inl (record { accepted = o.accepted; acked = o.acked })
      | inr o ↦ inr (record { x = o.x; is_last = o.is_last; accepted = o.accepted; needed = o.needed; chain = o.chain; low = o.low; current = o.current; sole = o.sole })
    ];
    waits = λ i y z. skip_waits i y z (ok.waits i y z);
    landed = λ i y z. skip_landed y (ok.landed i y z);
    frees = λ b z. let u = ok.frees b z in (u.0, omega (arith, u.1, higher), u.2, u.3, u.4);
    fresh = ok.fresh;
    spoken = spoken_up g s ts h h (λ y z. z) (λ p y z. z) (λ m y z. inl z) (λ j m z w. inl (z, w)) (λ y z. inl z) ok.spoken;
    history = ok.history;
    undrawn = λ n l. ok.undrawn n (omega (arith, higher, l));
    low = λ j m z. elim (ok.low j m z) [ inl l ↦ inl (omega (arith, l, higher)) | inr f ↦ inr f ];
    heard = λ j m z. elim (ok.heard j m z) [ inl l ↦ inl (omega (arith, l, higher)) | inr f ↦ inr f ];
  }

  pub skip_proc : (p : ℕ) (q : Process) → ProcOk g s h p q → ProcOk g ts h p q
  skip_proc p q o = elim (cases_eq q.author 0) [
    | inl z ↦ idle_kept g s ts h h p q z (λ b. b) (omega (arith, higher)) o
    | inr z ↦ proc_kept g s ts h h q (skip_kept q.author q.producer) p o
  ]
