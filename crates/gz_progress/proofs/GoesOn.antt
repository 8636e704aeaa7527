-- Step by step, a process that begins anew comes to be ready.
use Rattle.std.proofs.Common.{◌≡◌, ℕ, zero, suc, ◌+◌, ◌<◌, ◌≤◌, ◌==◌, List, [], ◌∷◌, ◌++◌, length, refl, ap, sym, ◌∙◌, arith, Bool, true, false, cond, Option, Some, None, subst, inl, inr, ◌&&◌, ◌||◌, not, nat_lt}
use Rattle.std.proofs.lemmas.Grind.{common_steps}
use Rattle.std.proofs.lemmas.Bool.{cond_both, cases_eq}
use Rattle.gz_reader.specs.Reader.{updated}
use Rattle.gz_reader.proofs.Updates.{upd_here, upd_other}
use Rattle.gz_once.specs.Applications.{App, prefix, each_below}
use Rattle.gz_once.specs.Log.{Transaction, Entry, Handed, ack, needs, last, count, end_of}
use Rattle.gz_once.specs.Processes.{Append, Handoff, Ack, Stand, Todo, Asked, Done, Playing, Handing, Acking, Reading, Process, Outcome, Item, Fed, Drew, Ask, Ask_at, Go, Good, Bad, Good_at, Bad_at, Begin, step, begins, acks, all_in, is_done}
use Rattle.gz_once.specs.Worlds.{Slot, Waits, Landed, Refused, Shared, World, put, mark, land, sent, does, answered, reply, reply_at, outstanding, Event, Feed, Draw, Take, Poll, Poll_at, Next, Land, Reply, Reply_at, Restart, happens, run}
use Rattle.gz_once.proofs.Texts.{prefix_all}
use Rattle.gz_progress.specs.GoingOn.{hands_off, writes_one, writes_all, acknowledges, goes_on, IsReady, IsLater}

pub run_two : (g : App) (es fs : List Event) (w : World) → run g (es ++ fs) w ≡ run g fs (run g es w)
run_two g [] fs w = refl
run_two g (e ∷ es) fs w = run_two g es fs (happens g w e)

-- what the world has of the journals, and of the process
pub record Sees (w : World) (p : ℕ) (s : Shared) (q : Process) : Type 0 where
  pub shared : w.shared ≡ s
  pub proc : w.procs p ≡ q

pub same_itself : (n : ℕ) → (n == n) ≡ true
same_itself n = grind (arith, common_steps)

module _ (g : App) (p : ℕ) where
  -- the process takes an item
  pub sees_does : (w : World) (s : Shared) (q : Process) (i : Item) → Sees w p s q → Sees (does g w p i) p (sent s (step g q s.count i).send) (step g q s.count i).proc
  sees_does w s q i o = record {
    shared = ap (λ (v : Shared). sent v (step g (w.procs p) v.count i).send) o.shared ∙ ap (λ (v : Process). sent s (step g v s.count i).send) o.proc;
    proc = upd_here w.procs p (step g (w.procs p) w.shared.count i).proc ∙ ap (λ (v : Shared). (step g (w.procs p) v.count i).proc) o.shared ∙ ap (λ (v : Process). (step g v s.count i).proc) o.proc;
  }

  -- an append that waits lands
  pub sees_land : (w : World) (s : Shared) (q : Process) (i : ℕ) → Sees w p s q → Sees (happens g w (Land i)) p (land s i (s.slots i)) q
  sees_land w s q i o = record { shared = ap (λ (v : Shared). land v i (v.slots i)) o.shared; proc = o.proc }

  abbrev playing : List Entry → ℕ → Process
  playing text d = record { text = text; author = d; producer = d; clock = 0; doubt = false; phase = Playing; outs = λ j. Todo }

  abbrev drawn : Shared → ℕ → Shared
  drawn s d = record s { drawn = d; own = updated s.own d true; free = updated (updated s.free d true) d false }

  abbrev handoff : Shared → ℕ → Append
  handoff s d = Handoff d (end_of s.log) (count s.log + 1)

  abbrev asked : Shared → ℕ → Shared
  asked s d = record (drawn s d) { slots = updated s.slots s.count (Waits (handoff s d)); count = s.count + 1 }

  abbrev handed : Shared → ℕ → Shared
  handed s d = mark (put (asked s d) (handoff s d)) s.count (Landed (handoff s d))

  abbrev acking : List Entry → ℕ → ℕ → ℕ → (ℕ → Stand) → Process
  acking text a pr cl f = record { text = text; author = a; producer = pr; clock = cl; doubt = false; phase = Acking; outs = f }

  module _ (w : World) (d : ℕ) (later : IsLater g w d) where
    abbrev s : Shared
    s = w.shared

    abbrev w1 : World
    w1 = happens g w (Restart p)

    abbrev w2 : World
    w2 = happens g w1 (Feed p (length s.log))

    abbrev w3 : World
    w3 = happens g w2 (Draw d)

    abbrev w4 : World
    w4 = happens g w3 (Take p d)

    abbrev w5 : World
    w5 = happens g w4 (Poll p)

    abbrev w6 : World
    w6 = happens g w5 (Land s.count)

    abbrev w7 : World
    w7 = happens g w6 (Reply p)

    begun : Sees w1 p s begins
    begun = sees_does w s (w.procs p) Begin (record { shared = refl; proc = refl })

    played : Sees w2 p s (record begins { text = s.log })
    played =
        subst (λ (t : List Entry). Sees w2 p s (record begins { text = t })) (ap (λ (v : Shared). prefix (length s.log) v.log) begun.shared ∙ prefix_all (length s.log) s.log (omega arith))
        (sees_does w1 s begins (Fed (prefix (length s.log) w1.shared.log)) begun)

    may_draw : (nat_lt s.drawn d && not (g.foreign d)) ≡ true
    may_draw = let l = later.0 in let t : nat_lt s.drawn d ≡ true = grind (arith, common_steps) in rw (t, later.1) refl

    abbrev drawing : Shared
    drawing = record s { drawn = d; own = updated s.own d true; free = updated s.free d true }

    drew : Sees w3 p drawing (record begins { text = s.log })
    drew =
        let test : (nat_lt w2.shared.drawn d && not (g.foreign d)) ≡ true = ap (λ (v : Shared). nat_lt v.drawn d && not (g.foreign d)) played.shared ∙ may_draw in
        let new : World = record w2 { shared = record w2.shared { drawn = d; own = updated w2.shared.own d true; free = updated w2.shared.free d true } } in
        subst (λ (b : Bool). Sees (cond b new w2) p drawing (record begins { text = s.log })) (sym test)
        (record { shared = ap (λ (v : Shared). record v { drawn = d; own = updated v.own d true; free = updated v.free d true }) played.shared; proc = played.proc })

    took : Sees w4 p (drawn s d) (playing s.log d)
    took =
        let free : w3.shared.free d ≡ true = ap (λ (v : Shared). v.free d) drew.shared ∙ upd_here s.free d true in
        let given : World = record w3 { shared = record w3.shared { free = updated w3.shared.free d false } } in
        subst (λ (b : Bool). Sees (cond b (does g given p (Drew d)) w3) p (drawn s d) (playing s.log d)) (sym free)
        (sees_does given (drawn s d) (record begins { text = s.log }) (Drew d) (record { shared = ap (λ (v : Shared). record v { free = updated v.free d false }) drew.shared; proc = drew.proc }))

    sent_off : Sees w5 p (asked s d) (record (playing s.log d) { phase = Handing s.count })
    sent_off =
        let l = later.0 in
        let some : (d == 0) ≡ false = grind (arith, common_steps) in
        let Q : Bool → Outcome = λ b. cond b (record { proc = playing s.log d; send = None }) (record { proc = record (playing s.log d) { phase = Handing s.count }; send = Some (handoff s d) }) in
        subst (λ (b : Bool). Sees w5 p (sent (drawn s d) (Q b).send) (Q b).proc) some (sees_does w4 (drawn s d) (playing s.log d) Ask took)

    landed : Sees w6 p (handed s d) (record (playing s.log d) { phase = Handing s.count })
    landed =
        let slot : (asked s d).slots s.count ≡ Waits (handoff s d) = upd_here s.slots s.count (Waits (handoff s d)) in
        let lands : land (asked s d) s.count (Waits (handoff s d)) ≡ handed s d =
        ap (λ (b : Bool). cond b (handed s d) (mark (asked s d) s.count (Refused (handoff s d)))) (same_itself (end_of s.log)) in
        subst (λ (v : Shared). Sees w6 p v (record (playing s.log d) { phase = Handing s.count })) (ap (λ (v : Slot). land (asked s d) s.count v) slot ∙ lands)
        (sees_land w5 (asked s d) (record (playing s.log d) { phase = Handing s.count }) s.count sent_off)

    abbrev log : List Entry
    log = Handed d (count s.log + 1) ∷ s.log

    answer : Sees w7 p (handed s d) (acking log d d 0 (λ j. Todo))
    answer =
        let out : outstanding (w6.procs p).phase ≡ Some s.count = ap (λ (v : Process). outstanding v.phase) landed.proc in
        let slot : w6.shared.slots s.count ≡ Landed (handoff s d) = ap (λ (v : Shared). v.slots s.count) landed.shared ∙ upd_here (asked s d).slots s.count (Landed (handoff s d)) in
        let P : World → Type 0 = λ v. Sees v p (handed s d) (acking log d d 0 (λ j. Todo)) in
        subst P (sym (ap (λ (o : Option ℕ). reply g w6 p o) out ∙ ap (λ (v : Slot). answered g w6 p Good Bad v) slot))
        (sees_does w6 (handed s d) (record (playing s.log d) { phase = Handing s.count }) Good landed)

  -- ---- the acknowledgements of the last commit

  record Written (w : World) (s : Shared) (text : List Entry) (a pr cl : ℕ) (x : Transaction) (j : ℕ) : Type 0 where
    now : Shared
    outs : ℕ → Stand
    sees : Sees w p now (acking text a pr cl outs)
    log : now.log ≡ s.log
    register : now.register ≡ s.register
    done : (i : ℕ) → i < j → needs g x i ≡ true → outs i ≡ Done
    todo : (i : ℕ) → j ≤ i → outs i ≡ Todo

  module _ (text : List Entry) (a pr cl : ℕ) (x : Transaction) (is_last : last text ≡ Some x) where
    -- one that is needed
    one_written : (w : World) (s : Shared) (f : ℕ → Stand) (j : ℕ) → needs g x j ≡ true → f j ≡ Todo → Sees w p s (acking text a pr cl f) →
        (t : Shared) × Sees (run g (Poll_at p j ∷ Land w.shared.count ∷ Reply_at p j ∷ []) w) p t (acking text a pr cl (updated (updated f j (Asked s.count)) j Done)) × (t.log ≡ s.log) × (t.register ≡ s.register)
    one_written w s f j need todo o =
        let line : Append = Ack j x.producer (ack x) in
        let v1 : World = happens g w (Poll_at p j) in
        let v2 : World = happens g v1 (Land w.shared.count) in
        let s1 : Shared = record s { slots = updated s.slots s.count (Waits line); count = s.count + 1 } in
        let s2 : Shared = mark (put s1 line) s.count (Landed line) in
        let q : Process = acking text a pr cl f in
        let q1 : Process = acking text a pr cl (updated f j (Asked s.count)) in
        let says : step g q s.count (Ask_at j) ≡ record { proc = q1; send = Some line } =
        ap (λ (v : Stand). acks g q s.count j v (last text)) todo ∙ ap (λ (v : Option Transaction). acks g q s.count j Todo v) is_last
        ∙ ap (λ (b : Bool). cond b (record { proc = q1; send = Some line }) (record { proc = q; send = None })) need in
        let o1 : Sees v1 p s1 q1 = subst (λ (v : Outcome). Sees v1 p (sent s v.send) v.proc) says (sees_does w s q (Ask_at j) o) in
        let at : w.shared.count ≡ s.count = ap (λ (v : Shared). v.count) o.shared in
        let lands : land s1 w.shared.count (s1.slots w.shared.count) ≡ s2 =
        ap (λ n. land s1 n (s1.slots n)) at ∙ ap (λ (v : Slot). land s1 s.count v) (upd_here s.slots s.count (Waits line)) in
        let o2 : Sees v2 p s2 q1 = subst (λ (v : Shared). Sees v2 p v q1) lands (sees_land v1 s1 q1 w.shared.count o1) in
        let stand : (v2.procs p).outs j ≡ Asked s.count = ap (λ (v : Process). v.outs j) o2.proc ∙ upd_here f j (Asked s.count) in
        let slot : v2.shared.slots s.count ≡ Landed line = ap (λ (v : Shared). v.slots s.count) o2.shared ∙ upd_here s1.slots s.count (Landed line) in
        let back : happens g v2 (Reply_at p j) ≡ does g v2 p (Good_at j) =
        ap (λ (v : Stand). reply_at g v2 p j v) stand ∙ ap (λ (v : Slot). answered g v2 p (Good_at j) (Bad_at j) v) slot in
        (s2, subst (λ (v : World). Sees v p s2 (acking text a pr cl (updated (updated f j (Asked s.count)) j Done))) (sym back) (sees_does v2 s2 q1 (Good_at j) o2), refl, refl)

    written : (w : World) (s : Shared) → Sees w p s (acking text a pr cl (λ i. Todo)) → (j : ℕ) → Written (run g (writes_all g x p j w) w) s text a pr cl x j
    written w s o zero = record { now = s; outs = λ i. Todo; sees = o; log = refl; register = refl; done = λ i l. absurd (omega arith); todo = λ i l. refl }
    written w s o (suc j) =
        let v : World = run g (writes_all g x p j w) w in
        let b : Written v s text a pr cl x j = written w s o j in
        let P : World → Type 0 = λ u. Written u s text a pr cl x (suc j) in
        subst P (sym (run_two g (writes_all g x p j w) (writes_one g x p j v) w))
        (cond_both (needs g x j) (Poll_at p j ∷ Land v.shared.count ∷ Reply_at p j ∷ []) [] (λ es. P (run g es v))
        (λ need.
        let r = one_written v b.now b.outs j need (b.todo j (omega arith)) b.sees in
        let f1 : ℕ → Stand = updated b.outs j (Asked (b.now).count) in
        record {
          now = r.0;
          outs = updated f1 j Done;
          sees = r.1;
          log = r.2 ∙ b.log;
          register = r.3 ∙ b.register;
          done = λ i l n. elim (cases_eq i j) [
            | inl e ↦ ap (updated f1 j Done) e ∙ upd_here f1 j Done
            | inr e ↦ upd_other f1 j Done i e ∙ upd_other b.outs j (Asked (b.now).count) i e ∙ b.done i (omega (arith, l, e)) n
          ];
          todo = λ i l. upd_other f1 j Done i (λ e. omega (arith, l, e)) ∙ upd_other b.outs j (Asked (b.now).count) i (λ e. omega (arith, l, e)) ∙ b.todo i (omega (arith, l));
        })
        (λ no. record {
          now = b.now;
          outs = b.outs;
          sees = b.sees;
          log = b.log;
          register = b.register;
          done = λ i l n. elim (cases_eq i j) [
            | inl e ↦ absurd (let t : needs g x i ≡ false = ap (λ k. needs g x k) e ∙ no in let c : true ≡ false = sym n ∙ t in cc)
            | inr e ↦ b.done i (omega (arith, l, e)) n
          ];
          todo = λ i l. b.todo i (omega (arith, l));
        }))

  pub all_done : (x : Transaction) (f : ℕ → Stand) (j : ℕ) → ((i : ℕ) → i < j → needs g x i ≡ true → f i ≡ Done) → each_below j (λ i. not (needs g x i) || is_done (f i)) ≡ true
  all_done x f zero d = refl
  all_done x f (suc j) d = rw (one (needs g x j) refl, all_done x f j (λ i l n. d i (omega (arith, l)) n)) refl
    where
      one : (b : Bool) → needs g x j ≡ b → (not b || is_done (f j)) ≡ true
      one true e = rw (d j (omega arith) e) refl
      one false e = refl

  -- ---- the end

  ends : (w v : World) (s : Shared) (d k : ℕ) (f : ℕ → Stand) → Sees v p s (acking (Handed d k ∷ w.shared.log) d d 0 f) → s.log ≡ Handed d k ∷ w.shared.log → s.register ≡ d → all_in g f (last w.shared.log) ≡ true → IsReady w (happens g v (Next p)) p d
  ends w v s d k f o log register all =
      let q : Process = acking (Handed d k ∷ w.shared.log) d d 0 f in
      let out : step g q s.count Go ≡ record { proc = record q { phase = Reading }; send = None } =
      ap (λ (b : Bool). cond b (record { proc = record q { phase = Reading }; send = None }) (record { proc = q; send = None })) all in
      let e : Sees (happens g v (Next p)) p s (record q { phase = Reading }) =
      subst (λ (r : Outcome). Sees (happens g v (Next p)) p (sent s r.send) r.proc) out (sees_does v s q Go o) in
      record {
        phase = ap (λ (u : Process). u.phase) e.proc;
        author = ap (λ (u : Process). u.author) e.proc;
        register = ap (λ (u : Shared). u.register) e.shared ∙ register;
        knows = ap (λ (u : Process). u.text) e.proc ∙ sym log ∙ ap (λ (u : Shared). u.log) (sym e.shared);
        log = (k, ap (λ (u : Shared). u.log) e.shared ∙ log);
      }

pub ready : (g : App) (w : World) (p d : ℕ) → IsLater g w d → IsReady w (run g (goes_on g w p d) w) p d
ready g w p d later = by_last (last w.shared.log) refl
  where
    by_last : (l : Option Transaction) → last w.shared.log ≡ l → IsReady w (run g (hands_off w p d ++ (acknowledges g l p (run g (hands_off w p d) w) ++ Next p ∷ [])) w) p d
    by_last None e =
        subst (λ (v : World). IsReady w v p d) (sym (run_two g (hands_off w p d) (Next p ∷ []) w))
        (ends g p w (run g (hands_off w p d) w) (handed g p w.shared d) d (count w.shared.log + 1) (λ j. Todo) (answer g p w d later) refl refl (ap (λ (v : Option Transaction). all_in g (λ j. Todo) v) e))
    by_last (Some x) e =
        let v : World = run g (hands_off w p d) w in
        let log : List Entry = Handed d (count w.shared.log + 1) ∷ w.shared.log in
        let b : Written g p (run g (writes_all g x p g.outputs v) v) (handed g p w.shared d) log d d 0 x g.outputs = written g p log d d 0 x e v (handed g p w.shared d) (answer g p w d later) g.outputs in
        subst (λ (u : World). IsReady w u p d) (sym (run_two g (hands_off w p d) (writes_all g x p g.outputs v ++ Next p ∷ []) w ∙ run_two g (writes_all g x p g.outputs v) (Next p ∷ []) v))
        (ends g p w (run g (writes_all g x p g.outputs v) v) b.now d (count w.shared.log + 1) b.outs b.sees b.log b.register
        (ap (λ (o : Option Transaction). all_in g b.outs o) e ∙ all_done g p x b.outs g.outputs b.done))
