use Rattle.std.proofs.lemmas.Result.{err_from_is_err_and}
use Rattle.gz_spelling.proofs.Whole.{all_again, body_fails, peer_fails, msg_fails}
use Rattle.gz_spelling.proofs.wire.read.Goals as goal

pub returns-in_err-body : goal.returns-in_err-body
returns-in_err-body g c =
    let p = err_from_is_err_and c.from_residual.result c.from_residual.ensures.1 in
    rw (p.1, p.2) (body_fails c.in_err-body.field-0.0 c.args.table.now.rows c.args.bytes.now c.in_err-body.ensures)

pub returns-in_err-peer : goal.returns-in_err-peer
returns-in_err-peer g c =
    let p = err_from_is_err_and c.from_residual-in_err-peer.result c.from_residual-in_err-peer.ensures.1 in
    rw (p.1, p.2) (peer_fails c.in_err-peer.field-0.0 c.args.table.now.rows c.args.bytes.now c.in_ok-body.body.now c.in_ok-body.ensures c.in_err-peer.ensures)

pub returns-in_err-msg : goal.returns-in_err-msg
returns-in_err-msg g c =
    let p = err_from_is_err_and c.from_residual-in_err-msg.result c.from_residual-in_err-msg.ensures.1 in
    rw (p.1, p.2) (msg_fails c.in_err-msg.field-0.0 c.args.table.now.rows c.args.bytes.now c.in_ok-body.body.now c.in_ok-peer.peer c.in_ok-peer.rest.now c.in_ok-body.ensures c.in_ok-peer.ensures c.in_err-msg.ensures)

pub returns : goal.returns
returns g c =
    all_again c.args.table.now.rows c.args.bytes.now c.in_ok-body.body.now c.in_ok-peer.peer c.in_ok-peer.rest.now c.in_ok-msg.msg c.in_ok-body.ensures c.in_ok-peer.ensures c.in_ok-msg.ensures
