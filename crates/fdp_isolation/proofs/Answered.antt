-- The end of a command keeps apart what was, whether its change was made or not: the flash was not called, or only read.
use Rattle.std.proofs.Common.{◌≡◌, ℕ, ◌+◌, Bool, true, false, IsTrue, List, [], ◌∷◌, Some, refl, sym, ◌∙◌, ap, subst}
use Rattle.std.specs.Prelude.{◌&&◌, ◌||◌}
use Rattle.fdp_base.specs.declared.command.Command.{Command}
use Rattle.fdp_base.specs.declared.config.DriveConfig.{DriveConfig}
use Rattle.fdp_base.specs.declared.entry.Entry.{Entry}
use Rattle.fdp_base.specs.declared.entry.Entry.TheVariants as entries
use Rattle.fdp_base.specs.declared.entry.Reply.{Reply}
use Rattle.fdp_base.specs.declared.entry.Spot.{Spot}
use Rattle.fdp_base.specs.declared.status.Status.{Status}
use Rattle.fdp_base.specs.CommandKinds.{is_setting, is_write}
use Rattle.fdp_book.specs.declared.ticket.Done.{Done}
use Rattle.fdp_book.specs.Book.{BookSeen, IsLed, point_in, state_in}
use Rattle.fdp_book.specs.Steps.{Completes}
use Rattle.fdp_flash.specs.declared.cell.Cell.{Cell}
use Rattle.fdp_isolation.specs.Isolated.{sets_placement, since_setting}
use Rattle.fdp_isolation.specs.Laned.{AreLaned, IsKnown, IsLaned}
use Rattle.fdp_isolation.proofs.Entries.{IsQuietStep, and-false, only-placed-host, since-set}
use Rattle.fdp_isolation.proofs.Keeping.{FillsNoMore, FillsNone, TakesNoMore, laned-renewed, laned-still, owners-fill, taken-kept}
use Rattle.fdp_isolation.proofs.Owning.{KeepsOwners, StoodBehind, book-owners, host-site, stood-other, stood-unmade, stood-written}
use Rattle.fdp_isolation.proofs.Setting.{generation-set, set-unwritten}
use Rattle.fdp_book.proofs.fdp_locations.Grouped.{generation-next}
use Rattle.fdp_owners.specs.declared.owner.Owner.{Owner}
use Rattle.fdp_owners.specs.OwnerTable.{owner_at}
use Rattle.fdp_book.specs.fdp_pages.Steps.{ChangesOwners}
use Rattle.fdp_pointers.specs.Contents.{content_at}
use Rattle.fdp_pointers.specs.Facts.{HasOnlyPlaced}
use Rattle.fdp_rules.specs.Answer.{bare}
use Rattle.fdp_rules.specs.Next.{next}
use Rattle.fdp_rules.specs.PlainState.{Going}
use Rattle.fdp_rules.specs.Point.{Point}
use Rattle.fdp_rules.specs.Step.{MaySucceed}
use Rattle.fdp_book.proofs.Longer.{point-one, written-one}
use Rattle.fdp_base.proofs.Writes.{each-write}

-- a command that is no setting, or whose change is not made, puts no other configuration in force
abbrev pub IsUnset : Command → Reply → Type 0
IsUnset command reply = (is_setting command && reply.applied) ≡ false

pub unset-unmade : (command : Command) (reply : Reply) → reply.applied ≡ false → IsUnset command reply
unset-unmade command reply unmade = ap (λ (b : Bool). is_setting command && b) unmade ∙ and-false (is_setting command)

pub unset-other : (command : Command) (reply : Reply) → is_setting command ≡ false → IsUnset command reply
unset-other command reply other = ap (λ (b : Bool). b && reply.applied) other

-- a write is none
pub unset-write : (command : Command) (reply : Reply) → IsTrue (is_write command) → IsUnset command reply
unset-write command reply write = each-write (λ x. IsUnset x reply) (λ w. refl) command write

module _ (old new : BookSeen) (queue number : ℕ) (command : Command) (reply : Reply) (moment : ℕ) (done : Done) (cells : List Cell) (known : IsKnown old) (led : IsLed new)
    (completes : Completes old new [] queue number command reply moment done) where
  abbrev pub ended : Entry
  ended = entries.Host (record { queue = queue; number = number; command = command; reply = reply; moment = moment })

  abbrev pub Stood : Type 0
  Stood = StoodBehind (content_at old.config (state_in old)) (content_at old.config (next old.config (point_in old) ended).state)

  point : point_in new ≡ next old.config (point_in old) ended
  point = point-one old new ended completes.step

  placed : HasOnlyPlaced (point_in old) → HasOnlyPlaced (point_in new)
  placed h = subst HasOnlyPlaced (sym point) (only-placed-host old.config (point_in old) queue number command reply moment h)

  -- what stands behind the pointers stood there before: so no page has an owner that had none
  owned-before : Stood → (spot : Spot) (x : Owner) → owner_at new.pages.owners spot ≡ Some x → (y : Owner) × (owner_at old.pages.owners spot ≡ Some y)
  owned-before behind spot x owned =
      let sites : (point_in new).trail.site ≡ (point_in old).trail.site = ap (λ (p : Point). p.trail.site) point ∙ host-site old.config (point_in old) queue number command reply moment in
      let stood : StoodBehind (content_at old.config (state_in old)) (content_at old.config (state_in new)) =
      subst (λ (p : Point). StoodBehind (content_at old.config (state_in old)) (content_at old.config p.state)) (sym point) behind in
      let keeps : KeepsOwners (owner_at old.pages.owners) (owner_at new.pages.owners) = book-owners old new known.led led completes.step.config_is (written-one old new ended completes.step) sites stood in
      let was = keeps spot x owned in
      (was.0, was.1)

  taken : Stood → TakesNoMore old.pages new.pages old.entries new.entries
  taken behind = taken-kept old new (ended ∷ []) completes.step (owned-before behind) (λ unit. refl)

  -- ---- no other configuration comes in force

  generation : IsUnset command reply → (state_in new).generation ≡ (state_in old).generation
  generation unset = ap (λ (p : Point). p.state.generation) point ∙ generation-next old.config (point_in old) ended unset

  quiet-ended : IsUnset command reply → HasOnlyPlaced (point_in old) → IsQuietStep old new (ended ∷ [])
  quiet-ended unset was = record {
    longer = completes.step;
    quiet = ap (λ (b : Bool). b || false) unset;
    generation = generation unset;
    placed = placed was;
  }

  pub laned-ended : FillsNoMore old.pages new.pages → IsUnset command reply → Stood → AreLaned old cells → AreLaned new cells
  laned-ended fills unset behind h =
      laned-still old new (ended ∷ []) cells cells
      (quiet-ended unset h.placed)
      fills (taken behind) (λ unit lies page spare bytes low is. is) (λ unit. refl) h

  -- a command was answered that changes nothing
  pub laned-answered : ChangesOwners old.pages new.pages → reply.applied ≡ false → AreLaned old cells → AreLaned new cells
  laned-answered changes unmade =
      laned-ended (owners-fill old.pages new.pages changes) (unset-unmade command reply unmade)
      (stood-unmade old.config (point_in old) queue number command reply moment known.orderly.state unmade)

  -- its entry puts no other configuration in force, and no page gets an owner
  pub answered-quiet : reply.applied ≡ false → HasOnlyPlaced (point_in old) → IsQuietStep old new (ended ∷ [])
  answered-quiet unmade was = quiet-ended (unset-unmade command reply unmade) was

  pub answered-generation : reply.applied ≡ false → (state_in new).generation ≡ (state_in old).generation
  answered-generation unmade = generation (unset-unmade command reply unmade)

  pub answered-owned : reply.applied ≡ false → (spot : Spot) (x : Owner) → owner_at new.pages.owners spot ≡ Some x → (y : Owner) × (owner_at old.pages.owners spot ≡ Some y)
  answered-owned unmade = owned-before (stood-unmade old.config (point_in old) queue number command reply moment known.orderly.state unmade)

  -- a command was made that is neither a write nor a setting, whatever its status
  pub laned-commanded : FillsNoMore old.pages new.pages → is_write command ≡ false → is_setting command ≡ false → AreLaned old cells → AreLaned new cells
  laned-commanded fills other unset =
      laned-ended fills (unset-other command reply unset)
      (stood-other old.config (point_in old) queue number command reply moment known.orderly.state other)

  -- ---- another one does

  -- a placement setting was made, whatever its status
  pub laned-set : FillsNone new.pages → is_setting command ≡ true → reply.applied ≡ true → AreLaned old cells → AreLaned new cells
  laned-set none sets made h =
      let set : sets_placement ended ≡ true = ap (λ (b : Bool). b && reply.applied) sets ∙ made in
      let generation : (state_in new).generation ≡ (state_in old).generation + 1 = ap (λ (p : Point). p.state.generation) point ∙ generation-set old.config (point_in old) queue number command reply moment sets made in
      let since : since_setting new.entries ≡ [] = ap since_setting completes.step.entries_are ∙ since-set old.entries ended set in
      let behind : Stood = stood-other old.config (point_in old) queue number command reply moment known.orderly.state (set-unwritten command sets) in
      let laned : IsLaned old.config ((state_in old).generation + 1) new.entries [] new.pages cells = laned-renewed old.config (state_in old).generation old.entries new.entries (since_setting old.entries) old.pages new.pages cells none (taken behind) h.laned in
      record {
        laned = subst (λ (c : DriveConfig). IsLaned c (state_in new).generation new.entries (since_setting new.entries) new.pages cells) (sym completes.step.config_is)
            (subst (λ (g : ℕ). IsLaned old.config g new.entries (since_setting new.entries) new.pages cells) (sym generation)
            (subst (λ (xs : List Entry). IsLaned old.config ((state_in old).generation + 1) new.entries xs new.pages cells) (sym since) laned));
        placed = placed h.placed;
      }

-- a write that may succeed was made, whatever its status
pub laned-committed : (old new : BookSeen) (queue moment : ℕ) (g : Going) (status : Status) (done : Done) (cells : List Cell) → IsKnown old → IsLed new → (state_in old).going queue ≡ Some g → MaySucceed old.config (point_in old) g
    → Completes old new [] queue g.number g.command (bare status true) moment done → ChangesOwners old.pages new.pages → AreLaned old cells → AreLaned new cells
laned-committed old new queue moment g status done cells known led going may completes changes =
    laned-ended old new queue g.number g.command (bare status true) moment done cells known led completes
    (owners-fill old.pages new.pages changes)
    (unset-write g.command (bare status true) (known.orderly.state.writes queue g going).write)
    (stood-written old.config (point_in old) queue g status moment known.orderly.state going may)
