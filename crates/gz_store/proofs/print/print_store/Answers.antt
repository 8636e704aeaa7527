use Rattle.std.proofs.lemmas.Str.{IsUtf8-string_bytes}
use Rattle.gz_store.proofs.Back.{printed_text, printed_back}
use Rattle.gz_store.proofs.print.print_store.Goals as goal

pub returns-clause-text : goal.returns-clause-text
returns-clause-text c =
    printed_text (record { checkpoint = c.args.checkpoint.now; state = c.args.state.now }) _ _ c.in_ok-value.ensures.value c.in_ok-value.ensures.keys c.in_ok-text.ensures.text

pub returns-clause-reads_back : goal.returns-clause-reads_back
returns-clause-reads_back c =
    printed_back (record { checkpoint = c.args.checkpoint.now; state = c.args.state.now }) _ _ c.in_ok-value.ensures.value c.in_ok-value.ensures.back c.in_ok-value.ensures.keys (IsUtf8-string_bytes c.in_ok-text.text)
    c.in_ok-text.ensures.text c.in_ok-text.ensures.reads_back
