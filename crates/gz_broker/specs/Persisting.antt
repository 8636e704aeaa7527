-- What a primary gives to the store.
use Rattle.std.specs.Prelude.{ℕ, ◌+◌, ◌==◌, List, [], ◌∷◌, Bool, false, Option, Some, None, if◌then◌else◌, nat_lt}
use Rattle.gz_replica.specs.declared.part.Part.{Part}
use Rattle.gz_replica.specs.declared.part.Part.TheVariants.{Open}
use Rattle.gz_replica.specs.Primary.{on_stored}
use Rattle.gz_broker.specs.Brokers.{Outstanding, Row, Broker, Outcome, idle, row_of, with_row, spec_of}
use Rattle.gz_broker.specs.Closing.{putting, store_put, has_fragment, by_rule}

-- a put as a new request, which takes the place of one that is outstanding
abbrev pub puts : List ℕ → Row → Broker → Outcome
puts j row b = record {
  broker = record b { rows = with_row j (putting (b.requests + 1) row) b.rows; requests = b.requests + 1 };
  closings = [];
  sends = store_put j (b.requests + 1) row.member.spool ∷ [];
}

abbrev pub flushes : List ℕ → Row → Part → Broker → Outcome
flushes j row (Open r held) b = if nat_lt row.member.spool.begin row.member.spool.head then puts j row b else idle b
flushes j row part b = idle b

abbrev pub flush : List ℕ → Broker → Outcome
flush j b = let row = row_of j b.rows in flushes j row row.member.part b

abbrev pub is_answer : ℕ → Option Outstanding → Bool
is_answer req None = false
is_answer req (Some p) = p.req == req

-- the store has what was put last
abbrev pub on_store_done : List ℕ → ℕ → ℕ → Broker → Outcome
on_store_done j req end b =
    let row = row_of j b.rows in
    if is_answer req row.putting then by_rule b j (record row { putting = None }) (on_stored j row.member end row.member.part) else idle b

-- a fragment's length from begin to head is put again
abbrev pub puts_again : List ℕ → Row → Part → Broker → Outcome
puts_again j row (Open r held) b = if has_fragment (spec_of j b.mirror) row.member.spool then puts j row b else idle b
puts_again j row part b = idle b
