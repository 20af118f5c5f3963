use Rattle.std.proofs.Common.{take, drop, ◌++◌, ◌+◌, ◌<◌, ◌≤◌, ap, refl, subst, sym, ◌∙◌, length}
use Rattle.std.specs.Prelude.{IsTrue}
use Rattle.fdp_core.specs.Advancing.{Advances, TellsMore}
use Rattle.fdp_core.specs.Seen.{Seen, Stands, stage_of}
use Rattle.fdp_core.specs.Sound.{IsKept, IsSound}
use Rattle.fdp_core.specs.Stops.{Outlasts, RetainsBehind}
use Rattle.fdp_core.proofs.Advancing.{advanced, told-more}
use Rattle.fdp_core.proofs.Collected.{firm-collected, kept-collected, relocation-none, survives-collected}
use Rattle.fdp_core.proofs.IsolatedSteps.{keeps-collected, retains-collected}
use Rattle.fdp_core.proofs.Outlasting.{outlasts-part}
use Rattle.fdp_core.proofs.Placing.{filled-buffer}
use Rattle.fdp_core.proofs.Relocated.{sound-collected, told-collected}
use Rattle.fdp_core.proofs.Wholes.{low-faults}
use Rattle.fdp_relocation.specs.fdp_keeper.Keeper.{CanSave}
use Rattle.fdp_relocation.proofs.fdp_locations.Others.{is-group}
use Rattle.fdp_relocation.specs.Collected.{Collects}
use Rattle.fdp_loading.specs.fdp_survival.Books.{IsInOrder, KeepsIsolated}
use Rattle.fdp_loading.proofs.fdp_survival.Steps.{HoldsBook}
use Rattle.fdp_relocation.specs.fdp_book.Book.{state_in, written_in}
use Rattle.fdp_core.proofs.group.Group.advance.Given.{Over}
use Rattle.fdp_core.proofs.Apart.{sound-isolated}
use Rattle.fdp_core.proofs.group.Group.advance.Goals as goal
use Rattle.fdp_base.specs.declared.config.Geometry.{Geometry}
use Rattle.fdp_relocation.specs.fdp_locations.Stored.{HoldsWritten}
use Rattle.fdp_relocation.specs.declared.advance.Advance.{Advance}
use Rattle.fdp_core.proofs.RoomySteps.{leaves-collected}

pub collect-advance-requires-clause-can : goal.collect-advance-requires-clause-can
collect-advance-requires-clause-can g c = subst (λ (s : Seen g.row.F.Denot). CanSave s.book s.keeper (g.F.Flash.state s.flash)) (sym c.self.view_is) c.can_save.ensures.can

pub collect-advance-requires-clause-said : goal.collect-advance-requires-clause-said
collect-advance-requires-clause-said g c told = let durable = c.self.invariant.kept.safe.at.durable told in record { own = durable.own; tried = durable.tried; say = durable.say; sure = durable.sure }

module _ (g : Over) (c : goal.After-known g) where
  abbrev old : Seen g.row.F.Denot
  old = record { book = c.self.inside.book; keeper = c.self.inside.keeper; handed = c.self.inside.handed; flash = c.self.inside.flash }

  abbrev new : Seen g.row.F.Denot
  new = record { book = c.collect-advance.new.book; keeper = c.collect-advance.new.keeper; handed = c.self.inside.handed; flash = c.collect-advance.new.flash }

  low : c.args.rg < c.self.inside.book.config.groups
  low = subst (λ (s : Seen g.row.F.Denot). c.args.rg < s.book.config.groups) (sym c.self.view_is) c.requires.group

  order : IsInOrder c.self.inside.book
  order = subst (λ (s : Seen g.row.F.Denot). IsInOrder s.book) (sym c.self.view_is) c.can_save.ensures.order

  then-order : IsInOrder c.collect-advance.new.book
  then-order = record { known = record { config = c.known.ensures.config; orderly = c.known.ensures.orderly; units = c.known.ensures.units; joined = c.known.ensures.joined; led = c.known.ensures.led; generation = c.known.ensures.generation }; standing = c.known.ensures.standing; listed = c.known.ensures.listed }

  stands : Stands (g.F.Flash.state c.self.inside.flash) c.self.inside.book
  stands = record { known = order.known; geometry = c.self.invariant.sound.geometry; stored = c.self.invariant.sound.stored }

  stored : HoldsBook c.collect-advance.new.book (g.F.Flash.state c.collect-advance.new.flash)
  stored tells =
      subst (λ (geometry : Geometry). HoldsWritten geometry (g.F.Flash.state c.collect-advance.new.flash).cells (written_in c.collect-advance.new.book) c.collect-advance.new.book.pages.units) (sym c.collect-advance.ensures.geometry)
      (c.collect-advance.ensures.stored (told-before c.collect-advance.result c.collect-advance.ensures.step tells))
    where
      told-before : (x : Advance) → Collects g.F.Flash.state (stage_of old) (stage_of new) c.args.rg x → IsTrue (g.F.Flash.state c.collect-advance.new.flash).told → IsTrue (g.F.Flash.state c.self.inside.flash).told
      told-before x h told = sym (told-collected g.F.Flash.state (stage_of old) (stage_of new) c.args.rg x h) ∙ told

  low-now : c.self.inside.handed.faults ≤ (g.F.Flash.state c.self.inside.flash).faults
  low-now = low-faults c.self.inside.handed c.self.inside.book (g.F.Flash.state c.self.inside.flash) c.self.invariant.sound.ledger

  sound : IsSound c.self.inside.handed (g.F.Flash.state c.collect-advance.new.flash) c.collect-advance.new.book (take c.self.inside.block.len (c.collect-advance.new.block ++ drop (length c.collect-advance.new.block) c.self.inside.block.items))
  sound =
      sound-collected g.F.Flash.state c.self.inside.handed (stage_of old) (stage_of new) c.args.rg c.self.inside.block.items _ low order.known c.self.invariant.kept.safe c.self.invariant.sound stored
      (filled-buffer c.self.inside.block.len c.self.inside.block.items c.collect-advance.new.block (ap length (sym c.deref_mut.ensures.value) ∙ c.deref_mut.ensures.len) (c.collect-advance.ensures.block ∙ ap length c.deref_mut.ensures.value))
      c.collect-advance.result c.collect-advance.ensures.step

  then-isolated : KeepsIsolated (g.F.Flash.state c.collect-advance.new.flash) c.collect-advance.new.book
  then-isolated = sound-isolated c.self.inside.handed (g.F.Flash.state c.collect-advance.new.flash) c.collect-advance.new.book _ then-order.known sound

  kept : IsKept c.self.inside.handed (g.F.Flash.state c.collect-advance.new.flash) c.collect-advance.new.book c.collect-advance.new.keeper
  kept =
      kept-collected g.F.Flash.state (stage_of old) (stage_of new) c.args.rg c.self.inside.handed order c.self.invariant.sound.geometry c.self.invariant.sound.stored c.self.invariant.sound.apart c.self.invariant.kept low then-order stored then-isolated low-now c.collect-advance.ensures.keeper
      c.collect-advance.result c.collect-advance.ensures.step

  advances : Advances g.F.Flash.state old new c.args.rg c.collect-advance.result
  advances =
      advanced g.F.Flash.state old new c.args.rg stands c.self.invariant.kept.safe low (is-group c.self.inside.book.config (state_in c.self.inside.book) c.self.inside.book.pages c.args.rg order.known.units low) refl
      c.collect-advance.result c.collect-advance.ensures.step

pub invariant_of-self : goal.invariant_of-self
invariant_of-self g c = record { sound = sound g c; kept = kept g c }

pub returns-clause-step : goal.returns-clause-step
returns-clause-step g c = subst (λ (s : Seen g.row.F.Denot). Advances g.F.Flash.state s (new g c) c.args.rg c.collect-advance.result) c.self.view_is (advances g c)

pub returns-clause-collects : goal.returns-clause-collects
returns-clause-collects g c = subst (λ (s : Seen g.row.F.Denot). Collects g.F.Flash.state (stage_of s) (stage_of (new g c)) c.args.rg c.collect-advance.result) c.self.view_is c.collect-advance.ensures.step

pub returns-clause-told : goal.returns-clause-told
returns-clause-told g c =
    subst (λ (s : Seen g.row.F.Denot). TellsMore g.F.Flash.state s (new g c) c.args.rg c.collect-advance.result) c.self.view_is
    (told-more g.F.Flash.state (old g c) (new g c) c.args.rg (stands g c) (low g c) refl (then-order g c).known (sound g c).ledger c.collect-advance.result c.collect-advance.ensures.step)

pub returns-clause-stops : goal.returns-clause-stops
returns-clause-stops g c =
    let a = advances g c in
    subst (λ (s : Seen g.row.F.Denot). Outlasts g.F.Flash.state s (new g c)) c.self.view_is
    (outlasts-part g.F.Flash.state (old g c) (new g c) a.es a.relocates.extends.book (relocation-none c.self.inside.book.config c.args.rg a.es a.relocates.inside)
    (survives-collected g.F.Flash.state (stage_of (old g c)) (stage_of (new g c)) c.args.rg c.self.inside.handed (order g c) c.self.invariant.sound.geometry c.self.invariant.sound.stored c.self.invariant.sound.apart c.self.invariant.kept (low g c) (then-order g c) (stored g c) (then-isolated g c) (low-now g c)
    c.collect-advance.ensures.keeper c.collect-advance.result c.collect-advance.ensures.step)
    (firm-collected g.F.Flash.state (stage_of (old g c)) (stage_of (new g c)) c.args.rg c.self.inside.handed (order g c) c.self.invariant.sound.geometry c.self.invariant.sound.stored c.self.invariant.sound.apart c.self.invariant.kept (low g c) (then-order g c) (stored g c) (then-isolated g c) (low-now g c)
    c.collect-advance.ensures.keeper c.collect-advance.result c.collect-advance.ensures.step)
    refl
    (leaves-collected g.F.Flash.state (stage_of (old g c)) (stage_of (new g c)) c.args.rg c.self.inside.handed c.self.inside.block.items (order g c) c.self.invariant (then-order g c).known (sound g c).room c.collect-advance.result c.collect-advance.ensures.step)
    (keeps-collected g.F.Flash.state (stage_of (old g c)) (stage_of (new g c)) c.args.rg (order g c).known (then-order g c).known (low g c) c.self.invariant.sound.geometry c.self.invariant.sound.stored c.self.invariant.sound.apart c.self.invariant.kept.safe
    (record { enabled = a.relocates.kept.enabled; index = a.relocates.kept.index; generation = a.relocates.kept.generation }) c.collect-advance.result c.collect-advance.ensures.step))

pub returns-clause-retains : goal.returns-clause-retains
returns-clause-retains g c =
    let a = advances g c in
    subst (λ (s : Seen g.row.F.Denot). RetainsBehind s.book (g.F.Flash.state s.flash) (g.F.Flash.state c.collect-advance.new.flash) c.collect-advance.result) c.self.view_is
    (retains-collected g.F.Flash.state (stage_of (old g c)) (stage_of (new g c)) c.args.rg (order g c).known (then-order g c).known (low g c) c.self.invariant.sound.geometry c.self.invariant.sound.stored c.self.invariant.sound.apart c.self.invariant.kept.safe
    (record { enabled = a.relocates.kept.enabled; index = a.relocates.kept.index; generation = a.relocates.kept.generation }) c.collect-advance.result c.collect-advance.ensures.step)

pub returns-clause-safe : goal.returns-clause-safe
returns-clause-safe g c = record { safe = (kept g c).safe; isolated = then-isolated g c }

pub returns-clause-old : goal.returns-clause-old
returns-clause-old g c = subst (λ (s : Seen g.row.F.Denot). Stands (g.F.Flash.state s.flash) s.book) c.self.view_is (stands g c)

pub returns-clause-new : goal.returns-clause-new
returns-clause-new g c = (then-order g c).known

pub returns-clause-epochs : goal.returns-clause-epochs
returns-clause-epochs g c = subst (λ (s : Seen g.row.F.Denot). c.collect-advance.new.keeper.saver.stamp.epoch + length s.book.entries ≤ s.keeper.saver.stamp.epoch + length c.collect-advance.new.book.entries) c.self.view_is c.collect-advance.ensures.epoch
