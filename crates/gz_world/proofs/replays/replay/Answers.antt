use Rattle.std.proofs.Common.{◌≡◌, Err, sym, ap}
use Rattle.gz_world.specs.declared.replays.ReplayError.{ReplayError}
use Rattle.gz_world.specs.declared.replays.ReplayError.TheVariants.{Refused}
use Rattle.gz_world.proofs.Lines.{first_short}
use Rattle.gz_world.proofs.Runs.{goes_refused, goes_done, nothing_read, handed_on, first_too_long}
use Rattle.gz_world.proofs.replays.replay.Goals as goal

pub returns-in_err-go_on-clause-refused : goal.returns-in_err-go_on-clause-refused
returns-in_err-go_on-clause-refused g c = λ refusal is.
    let takes = rw (c.in-Some.is, c.in_ok-reader.ensures) at c.in_ok-next.ensures.next in
    let judged = rw c.as_slice.ensures at c.in_ok-world.ensures.gives in
    let runs = rw c.len-first.ensures at c.in_err-go_on.ensures.refused in
    let why : Refused refusal ≡ c.in_err-go_on.field-0.0 = handed_on _ _ refusal c.from_residual-in_err-go_on.ensures.1 is in
    nothing_read _ _ (goes_refused _ _ _ _ refusal takes judged (runs refusal (ap (λ (e : ReplayError). Err e) (sym why))))

pub returns-in_err-next-clause-refused : goal.returns-in_err-next-clause-refused
returns-in_err-next-clause-refused g c = λ refusal is.
    let takes = rw c.in_ok-reader.ensures at c.in_err-next.ensures.next in
    nothing_read _ _ (first_too_long c.in_err-next.field-0.0 _ _ _ refusal (handed_on _ _ refusal c.from_residual-in_err-next.ensures.1 is) takes)

pub go_on-requires : goal.go_on-requires
go_on-requires g c =
    let judged = rw c.as_slice.ensures at c.in_ok-world.ensures.gives in
    record { first = rw c.len-first.ensures (first_short _ _ judged); run = c.in_ok-world.ensures.run }

pub returns-clause-done : goal.returns-clause-done
returns-clause-done g c =
    let takes = rw (c.in-Some.is, c.in_ok-reader.ensures) at c.in_ok-next.ensures.next in
    let judged = rw c.as_slice.ensures at c.in_ok-world.ensures.gives in
    let runs = rw c.len-first.ensures at c.in_ok-go_on.ensures.done in
    nothing_read _ _ (goes_done _ _ _ _ _ takes judged runs)
