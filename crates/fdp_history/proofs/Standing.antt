-- What each entry that may follow leaves of where the blocks stand.
use Rattle.std.proofs.Common.{◌≡◌, ℕ, Bool, true, false, refl, sym, ◌∙◌, arith}
use Rattle.std.specs.Prelude.{IsFalse}
use Rattle.fdp_base.specs.declared.command.Command.{Command}
use Rattle.fdp_base.specs.declared.config.DriveConfig.{DriveConfig}
use Rattle.fdp_base.specs.declared.entry.Entry.{Entry}
use Rattle.fdp_base.specs.declared.entry.Entry.TheVariants as entries
use Rattle.fdp_base.specs.declared.entry.Reply.{Reply}
use Rattle.fdp_rules.specs.Change.{after, changed_by}
use Rattle.fdp_rules.specs.Next.{next}
use Rattle.fdp_rules.specs.Point.{Point}
use Rattle.fdp_rules.specs.Sites.{traced_by}
use Rattle.fdp_rules.specs.Step.{Follows}
use Rattle.fdp_history.specs.Orderly.{IsOrderly}
use Rattle.fdp_history.specs.Standing.{IsStanding}
use Rattle.fdp_history.proofs.Effects.{applicable}
use Rattle.fdp_history.proofs.StandingPages.{erased-standing, moved-standing, placed-standing}
use Rattle.fdp_history.proofs.StandingWrites.{host-standing, standing-still, started-standing}

-- an entry that may follow leaves each block standing in its group
pub standing-next : (told : Bool) (c : DriveConfig) (p : Point) (e : Entry) → IsOrderly c p → IsStanding c p → Follows told c p e → IsStanding c (next c p e)
unfolding Follows next after changed_by traced_by
standing-next told c p (entries.Host host) orderly h step = host-standing c p host.queue host.number host.command host.reply host.moment orderly h (λ made. applicable told c p host.queue host.number host.command host.reply host.moment made step)
standing-next told c p (entries.Started s) orderly h step = started-standing c p s.queue s.number s.command s.rg s.ruh s.pid_valid orderly h
standing-next told c p (entries.Placed placed) orderly h step = placed-standing c p placed.ticket placed.index placed.unit placed.page step orderly h
standing-next told c p (entries.Copied copied) orderly h step = standing-still c p _ (record { position = omega arith; sites = refl; writes = λ queue g e. e }) (λ nsid lba b e. e) h
standing-next told c p (entries.Moved m) orderly h step = moved-standing c p m.rg m.blocks orderly h
standing-next told c p (entries.Erased e) orderly h step = erased-standing c p e.unit step h
standing-next told c p (entries.Retired r) orderly h step = standing-still c p _ (record { position = omega arith; sites = refl; writes = λ queue g e. e }) (λ nsid lba b e. e) h
standing-next told c p (entries.Aside a) orderly h step = standing-still c p _ (record { position = omega arith; sites = refl; writes = λ queue g e. e }) (λ nsid lba b e. e) h
standing-next told c p (entries.Shut s) orderly h step = standing-still c p _ (record { position = omega arith; sites = refl; writes = λ queue g e. e }) (λ nsid lba b e. e) h
standing-next told c p (entries.Worn w) orderly h step = standing-still c p _ (record { position = omega arith; sites = refl; writes = λ queue g e. e }) (λ nsid lba b e. e) h
standing-next told c p entries.Reopened orderly h step = standing-still c p _ (record { position = omega arith; sites = refl; writes = λ queue g e. absurd cc }) (λ nsid lba b e. e) h

-- the same for the end of a command whose change was not made
pub standing-ended : (c : DriveConfig) (p : Point) (queue number : ℕ) (command : Command) (reply : Reply) (moment : ℕ) → IsOrderly c p → IsStanding c p → IsFalse reply.applied → IsStanding c (next c p (entries.Host (record { queue = queue; number = number; command = command; reply = reply; moment = moment })))
standing-ended c p queue number command reply moment orderly h unmade = host-standing c p queue number command reply moment orderly h (λ made. absurd (let no : true ≡ false = sym made ∙ unmade in cc))
