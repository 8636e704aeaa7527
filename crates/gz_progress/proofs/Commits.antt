-- Step by step, the transaction of a process that is ready comes to be committed.
use Rattle.std.proofs.Common.{◌≡◌, ℕ, zero, suc, ◌+◌, ◌<◌, ◌≤◌, ◌==◌, List, [], ◌∷◌, refl, ap, sym, ◌∙◌, arith, Bool, true, false, cond, Some, None, subst, inl, inr}
use Rattle.std.proofs.lemmas.Bool.{cond_both, cases_eq}
use Rattle.gz_reader.specs.Reader.{Message, updated}
use Rattle.gz_reader.proofs.Updates.{upd_here, upd_other}
use Rattle.gz_once.specs.Applications.{App}
use Rattle.gz_once.specs.Log.{Transaction, Committed, lines, needs}
use Rattle.gz_once.specs.Processes.{Append, Commit, Lines, Stand, Todo, Asked, Done, Phase, Reading, Publishing, Committing, Sending, Process, Outcome, Extent, Ask, Ask_at, Go, Good_at, Bad_at, Consumed, step, publishes, on_consumed, transaction, all_in}
use Rattle.gz_once.specs.Worlds.{Slot, Waits, Landed, Refused, Shared, World, put, mark, land, sent, does, answered, reply_at, Poll, Poll_at, Next, Land, Reply_at, Consume, happens, run}
use Rattle.gz_progress.specs.GoingOn.{writes_one, writes_all, released, transacted, commits, CanCommit}
use Rattle.gz_progress.proofs.GoesOn.{Sees, run_two, same_itself, sees_does, sees_land, all_done}

module _ (g : App) (p : ℕ) (q : Process) (x : Transaction) where
  abbrev publishing : (ℕ → Stand) → Process
  publishing f = record q { phase = Publishing x; outs = f }

  -- the lines for one output
  one_written : (w : World) (s : Shared) (f : ℕ → Stand) (j : ℕ) → needs g x j ≡ true → f j ≡ Todo → Sees w p s (publishing f) →
      (t : Shared) × Sees (run g (Poll_at p j ∷ Land w.shared.count ∷ Reply_at p j ∷ []) w) p t (publishing (updated (updated f j (Asked s.count)) j Done)) × (t.log ≡ s.log) × (t.register ≡ s.register)
  one_written w s f j need todo o =
      let line : Append = Lines j x.producer (lines g x j) in
      let v1 : World = happens g w (Poll_at p j) in
      let v2 : World = happens g v1 (Land w.shared.count) in
      let s1 : Shared = record s { slots = updated s.slots s.count (Waits line); count = s.count + 1 } in
      let s2 : Shared = mark (put s1 line) s.count (Landed line) in
      let q1 : Process = publishing (updated f j (Asked s.count)) in
      let says : step g (publishing f) s.count (Ask_at j) ≡ record { proc = q1; send = Some line } =
      ap (λ (v : Stand). publishes g (publishing f) s.count j x v) todo
      ∙ ap (λ (b : Bool). cond b (record { proc = q1; send = Some line }) (record { proc = publishing f; send = None })) need in
      let o1 : Sees v1 p s1 q1 = subst (λ (v : Outcome). Sees v1 p (sent s v.send) v.proc) says (sees_does g p w s (publishing f) (Ask_at j) o) in
      let at : w.shared.count ≡ s.count = ap (λ (v : Shared). v.count) o.shared in
      let lands : land s1 w.shared.count (s1.slots w.shared.count) ≡ s2 =
      ap (λ n. land s1 n (s1.slots n)) at ∙ ap (λ (v : Slot). land s1 s.count v) (upd_here s.slots s.count (Waits line)) in
      let o2 : Sees v2 p s2 q1 = subst (λ (v : Shared). Sees v2 p v q1) lands (sees_land g p v1 s1 q1 w.shared.count o1) in
      let stand : (v2.procs p).outs j ≡ Asked s.count = ap (λ (v : Process). v.outs j) o2.proc ∙ upd_here f j (Asked s.count) in
      let slot : v2.shared.slots s.count ≡ Landed line = ap (λ (v : Shared). v.slots s.count) o2.shared ∙ upd_here s1.slots s.count (Landed line) in
      let back : happens g v2 (Reply_at p j) ≡ does g v2 p (Good_at j) =
      ap (λ (v : Stand). reply_at g v2 p j v) stand ∙ ap (λ (v : Slot). answered g v2 p (Good_at j) (Bad_at j) v) slot in
      (s2, subst (λ (v : World). Sees v p s2 (publishing (updated (updated f j (Asked s.count)) j Done))) (sym back) (sees_does g p v2 s2 q1 (Good_at j) o2), refl, refl)

  record Written (w : World) (s : Shared) (j : ℕ) : Type 0 where
    now : Shared
    outs : ℕ → Stand
    sees : Sees w p now (publishing outs)
    log : now.log ≡ s.log
    register : now.register ≡ s.register
    done : (i : ℕ) → i < j → needs g x i ≡ true → outs i ≡ Done
    todo : (i : ℕ) → j ≤ i → outs i ≡ Todo

  written : (w : World) (s : Shared) → Sees w p s (publishing (λ i. Todo)) → (j : ℕ) → Written (run g (writes_all g x p j w) w) s j
  written w s o zero = record { now = s; outs = λ i. Todo; sees = o; log = refl; register = refl; done = λ i l. absurd (omega arith); todo = λ i l. refl }
  written w s o (suc j) =
      let v : World = run g (writes_all g x p j w) w in
      let b : Written v s j = written w s o j in
      let P : World → Type 0 = λ u. Written u s (suc j) in
      subst P (sym (run_two g (writes_all g x p j w) (writes_one g x p j v) w))
      (cond_both (needs g x j) (Poll_at p j ∷ Land v.shared.count ∷ Reply_at p j ∷ []) [] (λ es. P (run g es v))
      (λ need.
      let r = one_written v b.now b.outs j need (b.todo j (omega arith)) b.sees in
      let f1 : ℕ → Stand = updated b.outs j (Asked (b.now).count) in
      record {
        now = r.0;
        outs = updated f1 j Done;
        sees = r.1;
        log = r.2 ∙ b.log;
        register = r.3 ∙ b.register;
        done = λ i l n. elim (cases_eq i j) [
          | inl e ↦ ap (updated f1 j Done) e ∙ upd_here f1 j Done
          | inr e ↦ upd_other f1 j Done i e ∙ upd_other b.outs j (Asked (b.now).count) i e ∙ b.done i (omega (arith, l, e)) n
        ];
        todo = λ i l. upd_other f1 j Done i (λ e. omega (arith, l, e)) ∙ upd_other b.outs j (Asked (b.now).count) i (λ e. omega (arith, l, e)) ∙ b.todo i (omega (arith, l));
      })
      (λ no. record {
        now = b.now;
        outs = b.outs;
        sees = b.sees;
        log = b.log;
        register = b.register;
        done = λ i l n. elim (cases_eq i j) [
          | inl e ↦ absurd (let t : needs g x i ≡ false = ap (λ k. needs g x k) e ∙ no in let c : true ≡ false = sym n ∙ t in cc)
          | inr e ↦ b.done i (omega (arith, l, e)) n
        ];
        todo = λ i l. b.todo i (omega (arith, l));
      }))

  -- with all lines in, it sends its commit, which lands
  lands_commit : (v : World) (s : Shared) (f : ℕ → Stand) → Sees v p s (publishing f) → all_in g f (Some x) ≡ true → x.author ≡ s.register → (n : ℕ) → n ≡ s.count →
      (run g (Next p ∷ Poll p ∷ Land n ∷ []) v).shared.log ≡ Committed x ∷ s.log
  lands_commit v s f o all force n at =
      let v1 : World = happens g v (Next p) in
      let v2 : World = happens g v1 (Poll p) in
      let q1 : Process = record (publishing f) { phase = Committing x } in
      let q2 : Process = record (publishing f) { phase = Sending x s.count } in
      let s2 : Shared = record s { slots = updated s.slots s.count (Waits (Commit x)); count = s.count + 1 } in
      let out : step g (publishing f) s.count Go ≡ record { proc = q1; send = None } =
      ap (λ (b : Bool). cond b (record { proc = q1; send = None }) (record { proc = publishing f; send = None })) all in
      let o1 : Sees v1 p s q1 = subst (λ (r : Outcome). Sees v1 p (sent s r.send) r.proc) out (sees_does g p v s (publishing f) Go o) in
      let o2 : Sees v2 p s2 q2 = sees_does g p v1 s q1 Ask o1 in
      let o3 = sees_land g p v2 s2 q2 n o2 in
      let same : (x.author == s.register) ≡ true = ap (λ a. x.author == a) (sym force) ∙ same_itself x.author in
      let landed : land s2 n (s2.slots n) ≡ mark (put s2 (Commit x)) s.count (Landed (Commit x)) =
      ap (λ m. land s2 m (s2.slots m)) at ∙ ap (λ (u : Slot). land s2 s.count u) (upd_here s.slots s.count (Waits (Commit x)))
      ∙ ap (λ (b : Bool). cond b (mark (put s2 (Commit x)) s.count (Landed (Commit x))) (mark s2 s.count (Refused (Commit x)))) same in
      ap (λ (u : Shared). u.log) o3.shared ∙ ap (λ (u : Shared). u.log) landed

pub committed : (g : App) (w : World) (p : ℕ) (extent : Extent) (to : ℕ → ℕ) → CanCommit g w p to → (run g (commits g w p extent to) w).shared.log ≡ Committed (transacted g w p extent to) ∷ w.shared.log
committed g w p extent to can =
    let q : Process = w.procs p in
    let x : Transaction = transacted g w p extent to in
    let begun : World = run g (Consume p extent to ∷ []) w in
    let m = (can.some).0 in
    let ms = (can.some).1 in
    let eats : on_consumed g q extent to (released g w p to) q.phase ≡ record { proc = record q { phase = Publishing x; outs = λ j. Todo }; send = None } =
    ap (λ (f : Phase). on_consumed g q extent to (released g w p to) f) can.phase
    ∙ ap (λ (v : List Message). on_consumed g q extent to v Reading) (can.some).2
    ∙ ap (λ (v : List Message). let u : Outcome = record { proc = record q { phase = Publishing (transaction g q extent to v); outs = λ j. Todo }; send = None } in u) (sym (can.some).2) in
    let o : Sees begun p w.shared (record q { phase = Publishing x; outs = λ j. Todo }) =
    subst (λ (b : Bool). Sees (cond b (does g w p (Consumed extent to (released g w p to))) w) p w.shared (record q { phase = Publishing x; outs = λ j. Todo })) (sym can.within)
    (subst (λ (r : Outcome). Sees (does g w p (Consumed extent to (released g w p to))) p (sent w.shared r.send) r.proc) eats
    (sees_does g p w w.shared q (Consumed extent to (released g w p to)) (record { shared = refl; proc = refl }))) in
    let v : World = run g (writes_all g x p g.outputs begun) begun in
    let b : Written g p q x v w.shared g.outputs = written g p q x begun w.shared o g.outputs in
    ap (λ (u : World). u.shared.log) (run_two g (writes_all g x p g.outputs begun) (Next p ∷ Poll p ∷ Land v.shared.count ∷ []) begun)
    ∙ lands_commit g p q x v b.now b.outs b.sees (all_done g p x b.outs g.outputs b.done) (sym can.force ∙ sym b.register) v.shared.count (ap (λ (u : Shared). u.count) (b.sees).shared)
    ∙ ap (λ es. Committed x ∷ es) b.log
