use Rattle.std.proofs.Common.{◌≡◌, Ok, refl, ◌∙◌, rules}
use Rattle.gz_label.specs.Labels.{spelling, print_of, set_of}
use Rattle.gz_label.proofs.Printed.{print_from}
use Rattle.gz_label.proofs.ReadBack.{read_back}
use Rattle.gz_label.proofs.label_set.LabelSet.print.Goals as goal

pub returns-in_ok-append_more-in-len1-up : goal.returns-in_ok-append_more-in-len1-up
returns-in_ok-append_more-in-len1-up c =
    let whole = print_from c.as_slice.result.now c.first-item.result c.in-len1-up.len_at_least c.first-item.is in
    let first : c.append_label.new.text ≡ spelling c.first-item.result = search rules in
    let printed : c.append_more.new.text ≡ print_of c.args.self.now = c.in_ok-append_more-in-len1-up.ensures ∙ rw (first, whole, c.as_slice.ensures.value) refl in
    let back : set_of (print_of c.args.self.now) ≡ Ok c.args.self.now = read_back c.args.self.now c.as_slice.ensures.valid in
    record { value = printed; read = rw printed back }
