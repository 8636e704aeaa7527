-- What the invariant says of the state alone: the parts of the theorem that are about one world, and that the journal
-- only grows.
use Rattle.gz_lineage.specs.Marks.{Mark, Lawful}
use Rattle.std.proofs.Common.{◌≡◌, ℕ, ◌<◌, List, [], ◌∷◌, ◌++◌, length, get_or, take, drop, refl, ap, ◌∙◌, arith, Some, subst}
use Rattle.gz_lineage.specs.Prefix.{IsPrefix}
use Rattle.gz_lineage.specs.Lists.{In}
use Rattle.gz_lineage.specs.Nodes.{Part, Node, Letter, Closed, Opening, Adopting, Syncing, Open, Replicate, Done}
use Rattle.gz_lineage.specs.World.{grown, risen}
use Rattle.gz_lineage.proofs.Prefixes.{pre_refl, pre_len, pre_push, pre_trans, pre_read, len_take}
use Rattle.gz_lineage.proofs.Listed.{each_in}
use Rattle.gz_lineage.proofs.Facts.{HeadOk, RouteOk, MessageOk, LetterOk}
use Rattle.std.proofs.lemmas.List.{get_or-take}
use Rattle.gz_lineage.specs.World
use Rattle.gz_lineage.specs.World.{World as Worlds, State, Moved, Event, Converge, Crash, Write, Deliver, Drop, Flush, Repeat, Renew, Resend, Give, node_at, fresh, grown_all}
use Rattle.gz_lineage.specs.Handover.{HandoverThroughout}
use Rattle.gz_lineage.specs.Safety.{Safe}
use Rattle.gz_lineage.proofs.Opening.{lawful_journal}
use Rattle.std.specs.Prelude.{slice_get, suc, zero}
use Rattle.gz_lineage.proofs.Invariant.{Inv, prefixes}
use Rattle.gz_lineage.proofs.Run.{run_ok, begins}

-- what was acknowledged is in the journal
said_done : (w : Worlds) (i : Inv w) (l : Letter) (e reach : ℕ) → In l w.said → l.body ≡ Done e reach → HeadOk i.g e reach
said_done w i l e reach s z =
    let a : LetterOk i.K i.g l = each_in (LetterOk i.K i.g) w.said l i.said s in
    let b : MessageOk i.K i.g l.from l.to (Done e reach) = rw z at a in
    b.2

there_is : (xs : List Mark) (k : ℕ) (x : Mark) → k < length xs → get_or xs k x ≡ x → slice_get xs k ≡ Some x
there_is [] k x l e = absurd (omega arith)
there_is (y ∷ ys) zero x l e = ap (λ (z : Mark). Some z) e
there_is (y ∷ ys) (suc k) x l e = there_is ys k x (omega arith) e

safe_of : (w : Worlds) → Inv w → Safe w
safe_of w i = record {
  lawful = subst Lawful i.journal (lawful_journal i.K i.g i.global);
  stores = i.stored;
  serves = prefixes w i;
  heads = λ n. omega (arith, pre_len (prefixes w i n), len_take (node_at w.state.nodes n).head (node_at w.state.nodes n).spool (i.nodes n).body.image.fits);
  held = λ l r reach s k e.
      let a : LetterOk i.K i.g l = each_in (LetterOk i.K i.g) w.said l i.said s in
      let b : MessageOk i.K i.g l.from l.to (Done r.epoch reach) = rw e at a in
      let o : RouteOk i.K r = each_in (RouteOk i.K) w.state.routes r i.routes k in
      rw (i.taken, o.others) at b.1;
  reached = λ l e reach s z.
      let h : HeadOk i.g e reach = said_done w i l e reach s z in
      omega (arith, pre_len h.prefix, len_take reach (i.g.text e) h.fits, ap length i.journal);
  stands = λ l m e reach k head x s t y z less.
      let h : HeadOk i.g e reach = said_done w i l e reach s y in
      let a : LetterOk i.K i.g m = each_in (LetterOk i.K i.g) w.said m i.said t in
      let b : MessageOk i.K i.g m.from m.to (Replicate e k x head) = rw z at a in
      let size : length (take reach (i.g.text e)) ≡ reach = len_take reach (i.g.text e) h.fits in
      let long : k < length i.g.journal = omega (arith, pre_len h.prefix, size) in
      let same : get_or i.g.journal k x ≡ x = pre_read k x h.prefix (omega (arith, size)) ∙ get_or-take reach (i.g.text e) k x less ∙ b.1 in
      subst (λ (j : List Mark). slice_get j k ≡ Some x) i.journal (there_is i.g.journal k x long same);
}

pub safe : (size : ℕ) (es : List Event) → HandoverThroughout es (World.start size) → Safe (World.run es (World.start size))
safe size es h = safe_of (World.run es (World.start size)) (run_ok es (World.start size) (begins size) h)

-- the journal only grows
grown_more : (j : List Mark) (st : Node) (p : Part) → IsPrefix j (grown j st p)
grown_more j st Closed = pre_refl j
grown_more j st (Opening r reports names) = pre_refl j
grown_more j st (Adopting r reached) = pre_refl j
grown_more j st (Syncing r) = pre_refl j
grown_more j st (Open r held queue) = pre_push (drop (length j) (take st.head st.spool)) (pre_refl j)

all_more : (nodes : List Node) (j : List Mark) → IsPrefix j (grown_all j nodes)
all_more [] j = pre_refl j
all_more (st ∷ nodes) j = pre_trans (grown_more j st st.part) (all_more nodes (grown j st st.part))

journal_run : (es : List Event) (w : Worlds) → IsPrefix w.journal (World.run es w).journal
journal_run [] w = pre_refl w.journal
journal_run (e ∷ es) w = pre_trans (all_more (World.step w e).state.nodes w.journal) (journal_run es (World.happens w e))

pub run_append : (es fs : List Event) (w : Worlds) → World.run (es ++ fs) w ≡ World.run fs (World.run es w)
run_append [] fs w = refl
run_append (e ∷ es) fs w = run_append es fs (World.happens w e)

pub grows : (size : ℕ) (es fs : List Event) → IsPrefix (World.run es (World.start size)).journal (World.run (es ++ fs) (World.start size)).journal
grows size es fs = rw (run_append es fs (World.start size)) (journal_run fs (World.run es (World.start size)))
