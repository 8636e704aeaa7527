use Rattle.std.proofs.Common.{List, ℕ, ◌++◌, ◌∙◌, ap, codes}
use Rattle.gz_spec.specs.Records.{ShardSpec}
use Rattle.gz_links.proofs.ByName.{short_log}
use Rattle.gz_links.proofs.links.log_name.Goals as goal

pub of-requires : goal.of-requires
of-requires c =
    short_log c.args.shard.now c.as_str.result.now _ c.as_str-2.result.now c.as_str-3.result.now
    (rw (← c.shard.view_is) c.shard.invariant)
    (c.as_str.ensures.value ∙ ap (λ (s : ShardSpec). s.recovery_log_prefix) c.shard.view_is)
    (c.in_ok-push_str.ensures.bytes ∙ ap (λ (t : List ℕ). t ++ codes "/") c.in_ok-text.ensures.ok)
    (c.as_str-2.ensures.value ∙ ap (λ (s : ShardSpec). s.id) c.shard.view_is)
    (c.as_str-3.ensures.value ∙ c.in_ok-push_str-2.ensures.bytes)
