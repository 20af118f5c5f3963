use Rattle.std.proofs.Common.{◌≡◌, ◌∙◌, ℕ, ap, sym, Some}
use Rattle.std.specs.Prelude.{◌==◌, if◌then◌else◌, option_map, unwrap_or}
use Rattle.fdp_rules.specs.Effect.{created, effect_of}
use Rattle.fdp_base.specs.Numbers.{with_at}
use Rattle.fdp_rules.specs.PlainState.{Block, PlainState}
use Rattle.fdp_rules.specs.Refusal.{is_absent}
use Rattle.fdp_rules.specs.Room.{namespace_ids}
use Rattle.fdp_tables.specs.Spaces.{block_in}
use Rattle.fdp_tables.specs.State.{block_of, plain_of, row}
use Rattle.fdp_tables.proofs.Spaces.{absent_row, blocks_in, find_passes, none_of, with_at_same}
use Rattle.fdp_plain_effects.proofs.create.create.Goals as goal

pub returns-clause-state : goal.returns-clause-state
unfolding effect_of
returns-clause-state c = λ queue size given list same.
    let k = c.args.kept.now in
    let s = plain_of k in
    let nsid = c.args.nsid in
    let absent : (lba : ℕ) → blocks_in k.spaces.items nsid lba ≡ none_of Block =
    absent_row (row k.spaces.items nsid) (find_passes (is_absent s) namespace_ids nsid c.requires.free) in
    let made : (lba : ℕ) → block_in (Some c.args.space) lba ≡ none_of Block = λ lba. ap (option_map block_of) (c.requires.empty lba) in
    let blocks : (n lba : ℕ) → (if n == nsid then block_in (Some c.args.space) lba else s.blocks n lba) ≡ s.blocks n lba = λ n lba.
    ap (λ b. with_at (λ m. s.blocks m lba) nsid b n) (made lba ∙ sym (absent lba)) ∙ with_at_same (λ m. s.blocks m lba) nsid n in
    let put : (let now : PlainState = record s { namespaces = with_at s.namespaces nsid (Some (created s size given list)) } in plain_of c.set_space.new.kept ≡ now) =
    c.set_space.ensures.state ∙ (λ d. record s { namespaces = with_at s.namespaces nsid (Some (same d)); blocks = λ n lba. blocks n lba d }) in
    put ∙ ap (λ o. let now : PlainState = record s { namespaces = with_at s.namespaces (unwrap_or o 0) (Some (created s size given list)) } in now) (sym c.requires.free)
