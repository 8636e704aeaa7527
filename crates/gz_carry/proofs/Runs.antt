-- Each run has a history: that of the journal theorem's invariant.
use Rattle.std.proofs.Common.{ℕ, ◌<◌, List, [], ◌∷◌, length, take, Option, Some, None, sym, subst}
use Rattle.std.specs.Prelude.{slice_index_or}
use Rattle.gz_label.specs.declared.entry.Entry.{Entry}
use Rattle.gz_lineage.specs.Lists.{Each}
use Rattle.gz_lineage.specs.Marks.{Mark, Reset, Added, MarkLanded, judged_at}
use Rattle.gz_lineage.specs.Nodes.{Report, Part, Node, Message, Letter, Closed, Opening, Adopting, Syncing, Open, Promised, Adopt, Replicate}
use Rattle.gz_lineage.specs.World.{Event, node_at, run, start}
use Rattle.gz_lineage.specs.Handover.{HandoverThroughout}
use Rattle.gz_lineage.proofs.Listed.{Slot, Slots, each_map}
use Rattle.gz_lineage.proofs.Landing.{lands_full}
use Rattle.gz_lineage.proofs.History.{Keys, Ghost}
use Rattle.gz_lineage.proofs.Facts.{Global, Copy, ReportOk, PartOk, MessageOk}
use Rattle.gz_lineage.proofs.Invariant.{Inv}
use Rattle.gz_lineage.proofs.Run.{run_ok, begins}
use Rattle.gz_carry.specs.Histories.{HasBytes, History, IsCopy, IsReported, PartOf, MessageOf, HasHistory}

-- a mark that landed has bytes
pub mark_bytes : (before : List Mark) (x : Mark) → MarkLanded before x → HasBytes x
mark_bytes before Reset a = tt
mark_bytes before (Added e) a = subst (λ (x : Entry). 0 < length x.bytes) (sym a.entry) (lands_full a.request (judged_at before a.request).landed a.end a.lands)

module _ (K : Keys) (g : Ghost) (gl : Global K g) where
  -- the lists of the invariant's history
  abbrev pub history_of : History
  history_of = record { made = g.made; list = g.text; base = g.base; puts = gl.puts; bytes = λ e k less. mark_bytes (take k (g.text e)) (slice_index_or (g.text e) k Reset) (gl.lawful e k less) }

  -- what a member has of an epoch is a copy
  pub copy_of : (e : ℕ) (xs : List Mark) → Copy K g e xs → IsCopy history_of e xs
  copy_of e xs c = record { made = c.made; base = c.base; within = c.within }

  -- and so is what it reported
  reported_of : (e m : ℕ) (o : Option Report) → Slot (ReportOk K g e) m o → IsReported history_of o
  reported_of e m None a = tt
  reported_of e m (Some r) a = copy_of r.adopted r.image.entries a.copy

  -- all that have come are
  reports_of : (e : ℕ) (ps : List (ℕ × Option Report)) → Slots (ReportOk K g e) ps → Each (λ (p : ℕ × Option Report). IsReported history_of p.1) ps
  reports_of e [] a = tt
  reports_of e (p ∷ ps) a = (reported_of e p.0 p.1 a.0, reports_of e ps a.1)

  -- a part is as it has to be
  pub part_of : (n : ℕ) (st : Node) (p : Part) → PartOk K g n st p → PartOf history_of st p
  part_of n st Closed a = tt
  part_of n st (Opening r reports names) a = record { promised = a.promised; unmade = a.unmade; told = reports_of r.epoch reports a.told; all = a.all }
  part_of n st (Adopting r reached) a = record { chosen = record { promised = a.promised; adopted = a.adopted; whole = a.whole }; all = a.all }
  part_of n st (Syncing r) a = record { promised = a.promised; adopted = a.adopted; whole = a.whole }
  part_of n st (Open r held queue) a = record { chosen = record { promised = a.promised; adopted = a.adopted; whole = a.whole }; all = a.all; made = a.made; base = a.base }

  -- a letter is of the history
  pub message_of : (from to : ℕ) (b : Message) → MessageOk K g from to b → MessageOf history_of b
  message_of from to (Promised e report) a = copy_of report.adopted report.image.entries a.copy
  message_of from to (Adopt e image) a = a.2.made
  message_of from to (Replicate e k x head) a = record { made = a.3; within = a.0; here = a.1; base = a.4 }
  message_of from to b a = tt

-- so each run throughout which handover held has one
pub runs_have_histories : (nodes : ℕ) (events : List Event) → HandoverThroughout events (start nodes) → HasHistory (run events (start nodes))
runs_have_histories nodes events h =
    let w = run events (start nodes) in
    let i : Inv w = run_ok events (start nodes) (begins nodes) h in
    record {
      history = history_of i.K i.g i.global;
      nodes = λ n. let st = node_at w.state.nodes n in record {
        spool = copy_of i.K i.g i.global st.adopted st.spool (i.nodes n).body.copy;
        part = part_of i.K i.g i.global n st st.part (i.nodes n).part;
      };
      said = each_map (λ (l : Letter) a. message_of i.K i.g i.global l.from l.to l.body a) w.said i.said;
    }
