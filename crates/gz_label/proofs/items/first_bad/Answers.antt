use Rattle.std.proofs.Common.{◌≡◌, ◌-◌, length, take, true, false, rules, ◌+◌, arith}
use Rattle.std.proofs.lemmas.List.{length-drop}
use Rattle.gz_label.specs.Items.{place_of, items_of, first_bad}
use Rattle.gz_label.specs.Forms.{fits}
use Rattle.gz_label.proofs.Parts.{items_left, bad_here, bad_later}
use Rattle.gz_label.proofs.items.first_bad.Goals as goal

pub returns-then-not-fits : goal.returns-then-not-fits
returns-then-not-fits c =
    let on : first_bad (fits c.args.form) (length c.args.text.now - length c.items.rest.now) (items_left true c.items.rest.now) ≡ first_bad (fits c.args.form) 0 (items_of c.args.text.now) = search rules in
    let bad : fits c.args.form (take (place_of 44 c.items.rest.now) c.items.rest.now) ≡ false = search rules in
    bad_here (fits c.args.form) (length c.args.text.now - length c.items.rest.now) c.items.rest.now (first_bad (fits c.args.form) 0 (items_of c.args.text.now)) on bad

pub items-preserved : goal.items-preserved
items-preserved c =
    let on : first_bad (fits c.args.form) (length c.args.text.now - length c.items.rest.now) (items_left true c.items.rest.now) ≡ first_bad (fits c.args.form) 0 (items_of c.args.text.now) = search rules in
    let fine : fits c.args.form (take (place_of 44 c.items.rest.now) c.items.rest.now) ≡ true = search rules in
    let later = bad_later (fits c.args.form) (length c.args.text.now) c.items.rest.now (first_bad (fits c.args.form) 0 (items_of c.args.text.now)) c.items.invariant.0 on fine in
    rw (c.behind-rest.ensures, c.find-end.ensures.value)
    (omega (arith, length-drop (place_of 44 c.items.rest.now + 1) c.items.rest.now, c.items.invariant.0), later)
