use Rattle.std.proofs.Common.{◌≡◌, ◌∙◌, ◌-◌, ℕ, ap, cond, length, sym, Some}
use Rattle.std.specs.Prelude.{◌==◌, ◌&&◌, if◌then◌else◌, option_map}
use Rattle.fdp_rules.specs.Effect.{block_of_write, effect_of}
use Rattle.fdp_base.specs.Numbers.{is_among}
use Rattle.fdp_tables.specs.State.{block_of, plain_of, row}
use Rattle.fdp_tables.proofs.Spaces.{if_same, offset_among}
use Rattle.fdp_plain_effects.proofs.write.write_blocks.Goals as goal

pub returns-clause-state : goal.returns-clause-state
unfolding effect_of
returns-clause-state c = λ queue dtype dspec count payload g going made.
    let k = c.args.kept.now in
    let s = plain_of k in
    let nsid = c.args.nsid in
    let slba = c.args.slba in
    let rows = c.args.made.items in
    let block = block_of_write k.config slba payload in
    let each : (n lba : ℕ) → (if n == nsid && is_among slba (length rows) lba then option_map block_of (row rows (lba - slba)) else s.blocks n lba) ≡ (if n == nsid && is_among slba count lba then option_map (block lba) (s.going queue) else s.blocks n lba) = λ n lba.
    ap (λ m. cond (n == nsid && is_among slba m lba) (option_map block_of (row rows (lba - slba))) (s.blocks n lba)) made.count_is
    ∙ if_same (n == nsid) (is_among slba count lba) (option_map block_of (row rows (lba - slba))) (Some (block lba g)) (s.blocks n lba) (λ among. made.each (lba - slba) (offset_among slba count lba among))
    ∙ ap (λ o. cond (n == nsid && is_among slba count lba) (option_map (block lba) o) (s.blocks n lba)) (sym going) in
    c.put.ensures.state ∙ (λ d. record s { blocks = λ n lba. each n lba d })
