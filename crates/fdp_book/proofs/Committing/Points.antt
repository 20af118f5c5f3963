-- What the end of a write that succeeds makes of what stands.
use Rattle.std.proofs.Common.{◌≡◌, ℕ, ◌+◌, true, Option, Some, None, refl, ap, subst, sym}
use Rattle.std.specs.Prelude.{◌==◌, ◌&&◌, option_map, if◌then◌else◌}
use Rattle.fdp_base.specs.declared.command.Command.{Command}
use Rattle.fdp_base.specs.declared.config.DriveConfig.{DriveConfig}
use Rattle.fdp_base.specs.declared.entry.Entry.TheVariants as entries
use Rattle.fdp_base.specs.declared.status.TheConstants.Status as statuses
use Rattle.fdp_rules.specs.Answer.{bare}
use Rattle.fdp_rules.specs.Change.{after, changed_by}
use Rattle.fdp_base.specs.CommandKinds.{blocks_written, write_of}
use Rattle.fdp_rules.specs.Effect.{block_of_write, effect_of}
use Rattle.fdp_rules.specs.Next.{next}
use Rattle.fdp_base.specs.Numbers.{is_among, with_at}
use Rattle.fdp_rules.specs.PlainState.{Block, PlainState}
use Rattle.fdp_rules.specs.Point.{Point}
use Rattle.fdp_rules.specs.Sites.{traced_by}
use Rattle.fdp_book.proofs.Kept.{IsAlike}
use Rattle.fdp_readings.proofs.fdp_locations.Units.{HasSameUnits}
use Rattle.fdp_base.specs.declared.command.Write.{Write}
use Rattle.fdp_base.proofs.Writes.{write-is}
use Rattle.std.specs.Option.{option_map_or}

-- the blocks with those of a write
abbrev pub blocks_with : DriveConfig → PlainState → ℕ → Write → ℕ → ℕ → Option Block
blocks_with c s queue w n lba = if n == w.nsid && is_among w.slba w.count lba then option_map (block_of_write c w.slba w.payload lba) (s.going queue) else s.blocks n lba

-- the state after a write that succeeds
abbrev pub committed_state : DriveConfig → PlainState → ℕ → Write → PlainState
committed_state c s queue w = record s { position = s.position + 1; blocks = blocks_with c s queue w; going = with_at s.going queue None }

committed-state : (c : DriveConfig) (s : PlainState) (queue number : ℕ) (command : Command) (moment : ℕ) (w : Write) → write_of command ≡ Some w → after c s (entries.Host (record { queue = queue; number = number; command = command; reply = bare statuses.SUCCESS true; moment = moment })) ≡ committed_state c s queue w
unfolding after changed_by effect_of
committed-state c s queue number command moment w e =
    subst
    (λ (x : Command). after c s (entries.Host (record { queue = queue; number = number; command = x; reply = bare statuses.SUCCESS true; moment = moment })) ≡ committed_state c s queue w)
    (sym (write-is command w e)) refl

-- what it leaves, and what it changes
pub record IsCommitted (c : DriveConfig) (p q : Point) (queue : ℕ) (w : Write) : Type 0 where
  pub alike : IsAlike p.state q.state
  pub units : HasSameUnits p.state q.state
  pub going : q.state.going ≡ with_at p.state.going queue None
  pub blocks : q.state.blocks ≡ blocks_with c p.state queue w
  pub trail : q.trail ≡ p.trail

pub committed : (c : DriveConfig) (p : Point) (queue number : ℕ) (command : Command) (moment : ℕ) (w : Write) → write_of command ≡ Some w → IsCommitted c p (next c p (entries.Host (record { queue = queue; number = number; command = command; reply = bare statuses.SUCCESS true; moment = moment }))) queue w
unfolding next traced_by
committed c p queue number command moment w e =
    let is = committed-state c p.state queue number command moment w e in
    record {
      alike = record {
        enabled = ap (λ (s : PlainState). s.enabled) is;
        index = ap (λ (s : PlainState). s.index) is;
        generation = ap (λ (s : PlainState). s.generation) is;
        namespaces = ap (λ (s : PlainState). s.namespaces) is;
      };
      units = record {
        enabled = ap (λ (s : PlainState). s.enabled) is;
        index = ap (λ (s : PlainState). s.index) is;
        references = ap (λ (s : PlainState). s.references) is;
        is_lost = ap (λ (s : PlainState). s.is_lost) is;
        is_worn = ap (λ (s : PlainState). s.is_worn) is;
      };
      going = ap (λ (s : PlainState). s.going) is;
      blocks = ap (λ (s : PlainState). s.blocks) is;
      trail = refl;
    }

-- a write has as many blocks as it says
pub blocks-count : (command : Command) (w : Write) → write_of command ≡ Some w → blocks_written command ≡ w.count
blocks-count command w e = ap (λ (o : Option Write). option_map_or (λ (x : Write). x.count) o 0) e
