-- How a process reads its sources.
use Rattle.std.specs.Prelude.{ℕ, List, [], ◌∷◌, ◌++◌, map, filter, flat_map, Option, Some, None, if◌then◌else◌}
use Rattle.std.specs.Str.{bytes_eq}
use Rattle.gz_keyspace.specs.Mirrors.{Mirrored}
use Rattle.gz_frame.specs.Messages.{Message}
use Rattle.gz_sequencer.specs.Machine.{at, fed}
use Rattle.gz_process.specs.Processes.{Reading, Got, Feed, Process, ReadsSource, in_phase}
use Rattle.gz_process.specs.Asking.{From, Want, Polled, quiet, asks, is_idle}
use Rattle.gz_process.specs.Answers.{Found, Bytes, NoReader, NotYet, NoSense}
use Rattle.gz_process.specs.Transactions.{transacts}

-- ---- polls

abbrev pub source_reads : List Feed → List Want
source_reads feeds = map (λ f. record { question = ReadsSource f.journal (at f.machine); journal = f.journal; body = From (at f.machine) }) feeds

-- every source is read, in their order; one without a route is passed over
abbrev pub polls_reading : Mirrored → ℕ → ℕ → Process → Polled
polls_reading m base now p = asks m base (source_reads p.feeds) (quiet (in_phase (Reading now []) p))

-- ---- answers

-- the bytes that came of a source
abbrev pub bytes_of : List ℕ → List Got → List ℕ
bytes_of journal got = flat_map (λ g. g.content) (filter (λ g. bytes_eq g.journal journal) got)

abbrev pub fed_each : List Got → List Feed → List Feed
fed_each got feeds = map (λ f. record { journal = f.journal; machine = fed f.machine (bytes_of f.journal got) }) feeds

-- what was released, source by source
abbrev pub released_by : List Feed → List Message
released_by feeds = flat_map (λ f. f.machine.released) feeds

-- all of it is taken
abbrev pub taken_all : List Feed → List Feed
taken_all feeds = map (λ f. record { journal = f.journal; machine = record f.machine { released = [] } }) feeds

-- released messages are consumed; where there are none it goes on reading
abbrev pub consumes : Process → ℕ → List Message → Process
consumes p now [] = in_phase (Reading 0 []) p
consumes p now (m ∷ ms) = transacts p now (m ∷ ms)

abbrev pub takes_released : Process → ℕ → List Feed → Process
takes_released p now feeds = consumes (record p { feeds = taken_all feeds }) now (released_by feeds)

-- when all reads are answered, the bytes are fed, in the order of the sources
abbrev pub reads_on : Process → ℕ → List Got → Process
reads_on p now got = if is_idle p then takes_released p now (fed_each got p.feeds) else in_phase (Reading now got) p

-- a read of a source is answered
abbrev pub on_source : Process → ℕ → List Got → List ℕ → Found → Option Process
on_source p now got journal (Bytes content) = Some (reads_on p now (got ++ record { journal = journal; content = content } ∷ []))
on_source p now got journal NoReader = Some (reads_on p now got)
on_source p now got journal (NotYet head) = Some (reads_on p now got)
on_source p now got journal NoSense = None
