-- What a consumer does with changes of the keys: processes begin, begin anew, and are dropped.
use Rattle.std.specs.Prelude.{ℕ, ◌+◌, ◌==◌, ◌&&◌, ◌||◌, not, List, [], ◌∷◌, Bool, true, false, Option, Some, None, if◌then◌else◌, codes}
use Rattle.gz_label.specs.declared.keys.Change.{Change}
use Rattle.gz_label.specs.declared.keys.KeyWrite.{KeyWrite}
use Rattle.gz_keyspace.specs.Mirrors.{Mirrored, applied}
use Rattle.gz_converge.specs.Views.{behind}
use Rattle.gz_process.specs.Processes.{Definition, Process, begins}
use Rattle.gz_process.specs.Views.{is_listed, is_primary, definition_of}
use Rattle.gz_process.specs.Consumers.{Processes, Consumer, process_of, with_process, without_process}

-- a process of this definition begins; without one there is none
abbrev pub begun_with : List ℕ → Option Definition → Processes → Processes
begun_with shard None ps = without_process shard ps
begun_with shard (Some d) ps = with_process shard (begins d) ps

-- a process that is there goes on, or begins anew
abbrev pub goes_on : List ℕ → Bool → Mirrored → Option Process → Processes → Processes
goes_on shard anew m None ps = begun_with shard (definition_of shard m) ps
goes_on shard anew m (Some p) ps = if anew then begun_with shard (definition_of shard m) ps else ps

-- it was first of the consumers of the shard, and isn't any more
abbrev pub is_demoted : List ℕ → List ℕ → Mirrored → Mirrored → Bool
is_demoted name shard before after = is_primary name shard before && not (is_primary name shard after)

-- Where the shard isn't given to this consumer its process is dropped. It begins anew where the shard's specification was
-- written, or the consumer was demoted.
abbrev pub resettled : List ℕ → List ℕ → Bool → Mirrored → Mirrored → Processes → Processes
resettled name shard written before after ps =
    if is_listed name shard after
    then goes_on shard (written || is_demoted name shard before after) after (process_of shard ps) ps
    else without_process shard ps

-- a write to the shard's list, or to its specification
abbrev pub on_list : List ℕ → Mirrored → Mirrored → Option (List ℕ) → Processes → Processes
on_list name before after None ps = ps
on_list name before after (Some shard) ps = resettled name shard false before after ps

abbrev pub on_spec : List ℕ → Mirrored → Mirrored → Option (List ℕ) → Processes → Processes
on_spec name before after None ps = ps
on_spec name before after (Some shard) ps = resettled name shard true before after ps

abbrev pub on_write : List ℕ → Mirrored → Mirrored → KeyWrite → Processes → Processes
on_write name before after w ps = on_spec name before after (behind (codes "shard/") w.key) (on_list name before after (behind (codes "assign/") w.key) ps)

abbrev pub on_writes : List ℕ → Mirrored → Mirrored → List KeyWrite → Processes → Processes
on_writes name before after [] ps = ps
on_writes name before after (w ∷ ws) ps = on_writes name before after ws (on_write name before after w ps)

abbrev pub moved_to : Mirrored → List KeyWrite → Consumer → Consumer
moved_to after writes c = record c { mirror = after; processes = on_writes c.name c.mirror after writes c.processes }

-- the next change is taken; others are ignored
abbrev pub on_change : Change → Consumer → Consumer
on_change change c = if change.revision == c.mirror.revision + 1 then moved_to (applied change c.mirror) change.writes c else c

abbrev pub on_changes : List Change → Consumer → Consumer
on_changes [] c = c
on_changes (change ∷ changes) c = on_changes changes (on_change change c)
