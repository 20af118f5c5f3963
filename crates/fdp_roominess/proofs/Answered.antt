-- The end of a command, or the start of a write, leaves each group its room.
use Rattle.std.proofs.Common.{◌≡◌, ℕ, true, false, [], Some, None, refl, sym, ◌∙◌, ap, subst, ⊎_elim}
use Rattle.fdp_base.specs.declared.command.Command.{Command}
use Rattle.fdp_base.specs.declared.config.DriveConfig.{DriveConfig}
use Rattle.fdp_base.specs.declared.entry.Entry.{Entry}
use Rattle.fdp_base.specs.declared.entry.Entry.TheVariants as entries
use Rattle.fdp_base.specs.declared.entry.Reply.{Reply}
use Rattle.fdp_base.specs.declared.entry.Started.{Started}
use Rattle.fdp_base.specs.declared.status.Status.{Status}
use Rattle.fdp_base.specs.CommandKinds.{is_write}
use Rattle.fdp_book.specs.declared.ticket.Done.{Done}
use Rattle.fdp_book.specs.declared.ticket.Ticket.{Ticket}
use Rattle.fdp_book.specs.Book.{BookSeen, IsLed, point_in, state_in}
use Rattle.fdp_book.specs.Commanded.{AppliesTo, OnlyLetsGo}
use Rattle.fdp_book.specs.Steps.{Completes, Starts}
use Rattle.fdp_book.specs.fdp_pages.Joined.{AreJoined}
use Rattle.fdp_book.specs.fdp_pages.PageTables.{PageTables}
use Rattle.fdp_book.specs.fdp_pages.Steps.{ChangesOwners}
use Rattle.fdp_book.proofs.Longer.{point-one, written-one}
use Rattle.fdp_isolation.specs.Laned.{IsKnown}
use Rattle.fdp_isolation.proofs.Owning.{KeepsOwners, StoodBehind, book-owners, host-site, started-site, stood-renamed, stood-unmade, stood-written}
use Rattle.fdp_owners.specs.declared.owner.Owner.{Owner}
use Rattle.fdp_owners.specs.OwnerTable.{owner_at}
use Rattle.fdp_pointers.specs.Contents.{content_at, renamed_by}
use Rattle.fdp_pointers.proofs.Steps.{contents-renamed}
use Rattle.fdp_rules.specs.Answer.{bare}
use Rattle.fdp_rules.specs.Next.{next}
use Rattle.fdp_rules.specs.PlainState.{Going}
use Rattle.fdp_rules.specs.Point.{Point}
use Rattle.fdp_rules.specs.Step.{MaySucceed}
use Rattle.fdp_roominess.specs.Room.{HaveRoom}
use Rattle.fdp_roominess.proofs.Owning.{OwnsNoMore, left-room, owners-room, same-room}
use Rattle.fdp_book.proofs.PageChanges.{by-pages}

-- owners that pages had before
had-before : (old new : BookSeen) → KeepsOwners (owner_at old.pages.owners) (owner_at new.pages.owners) → (unit : ℕ) → OwnsNoMore old.pages.owners new.pages.owners unit
had-before old new keeps unit page x e = let was = keeps (record { unit = unit; page = page }) x e in (was.0, was.1)

module _ (old new : BookSeen) (queue number : ℕ) (command : Command) (reply : Reply) (moment : ℕ) (done : Done) (known : IsKnown old) (led : IsLed new) (completes : Completes old new [] queue number command reply moment done) where
  abbrev ended : Entry
  ended = entries.Host (record { queue = queue; number = number; command = command; reply = reply; moment = moment })

  abbrev Stood : Type 0
  Stood = StoodBehind (content_at old.config (state_in old)) (content_at old.config (next old.config (point_in old) ended).state)

  room-ended : Stood → ChangesOwners old.pages new.pages → HaveRoom old.pages → HaveRoom new.pages
  room-ended behind changes =
      let point : point_in new ≡ next old.config (point_in old) ended = point-one old new ended completes.step in
      let sites : (point_in new).trail.site ≡ (point_in old).trail.site = ap (λ (p : Point). p.trail.site) point ∙ host-site old.config (point_in old) queue number command reply moment in
      let stood : StoodBehind (content_at old.config (state_in old)) (content_at old.config (state_in new)) =
      subst (λ (p : Point). StoodBehind (content_at old.config (state_in old)) (content_at old.config p.state)) (sym point) behind in
      owners-room old.pages new.pages known.joined changes (had-before old new (book-owners old new known.led led completes.step.config_is (written-one old new ended completes.step) sites stood))

  -- its change was not made
  pub room-answered : ChangesOwners old.pages new.pages → reply.applied ≡ false → HaveRoom old.pages → HaveRoom new.pages
  room-answered changes unmade = room-ended (stood-unmade old.config (point_in old) queue number command reply moment known.orderly.state unmade) changes

-- a write that may succeed was made
pub room-written : (old new : BookSeen) (queue moment : ℕ) (g : Going) (status : Status) (done : Done) → IsKnown old → IsLed new → (state_in old).going queue ≡ Some g → MaySucceed old.config (point_in old) g
    → Completes old new [] queue g.number g.command (bare status true) moment done → ChangesOwners old.pages new.pages → HaveRoom old.pages → HaveRoom new.pages
room-written old new queue moment g status done known led going may completes changes =
    room-ended old new queue g.number g.command (bare status true) moment done known led completes
    (stood-written old.config (point_in old) queue g status moment known.orderly.state going may) changes

-- a write was let go
pub room-started : (old new : BookSeen) (queue number : ℕ) (command : Command) (ticket : Ticket) → IsKnown old → IsLed new → Starts old new queue number command ticket → ChangesOwners old.pages new.pages → HaveRoom old.pages → HaveRoom new.pages
room-started old new queue number command ticket known led starts changes =
    let s : Started = record { queue = queue; number = number; command = command; rg = starts.target.rg; ruh = starts.target.ruh; pid_valid = starts.target.valid } in
    let e : Entry = entries.Started s in
    let point : point_in new ≡ next old.config (point_in old) e = point-one old new e starts.step in
    let sites : (point_in new).trail.site ≡ (point_in old).trail.site = ap (λ (p : Point). p.trail.site) point ∙ started-site old.config (point_in old) s in
    let stood : StoodBehind (content_at old.config (state_in old)) (content_at old.config (state_in new)) =
    subst (λ (p : Point). StoodBehind (content_at old.config (state_in old)) (content_at old.config p.state)) (sym point)
    (stood-renamed (renamed_by (state_in old) e) _ _ (contents-renamed true old.config (point_in old) e known.orderly.state (starts.follows true) refl)) in
    owners-room old.pages new.pages known.joined changes (had-before old new (book-owners old new known.led led starts.step.config_is (written-one old new e starts.step) sites stood))

-- ---- the change of another command

lets-go : (t now : PageTables) → OnlyLetsGo t now → (unit : ℕ) → OwnsNoMore t.owners now.owners unit
lets-go t now only unit page x e = ⊎_elim
    (λ (same : owner_at now.owners (record { unit = unit; page = page }) ≡ owner_at t.owners (record { unit = unit; page = page })). had x (sym same ∙ e))
    (λ (none : owner_at now.owners (record { unit = unit; page = page }) ≡ None). absurd (never (sym none ∙ e)))
    (only (record { unit = unit; page = page })) where
      had : (y : Owner) → owner_at t.owners (record { unit = unit; page = page }) ≡ Some y → (z : Owner) × (owner_at t.owners (record { unit = unit; page = page }) ≡ Some z)
      had y e = (y, e)

      never : None ≡ Some x → ⊥
      never e = cc

pub room-applied : (c : DriveConfig) (command : Command) (t now : PageTables) → AreJoined t → is_write command ≡ false → AppliesTo c command t now → HaveRoom t → HaveRoom now
room-applied c command t now joined other h =
    by-pages c (λ x old new. AreJoined old → is_write x ≡ false → HaveRoom old → HaveRoom new)
    (record {
      written = λ w old new changes whole unwritten. absurd (no-write unwritten);
      still = λ x old new same whole unwritten. same-room old new same;
      gone = λ x old new lets whole unwritten. owners-room old new whole lets.changes (lets-go old new lets.only);
      left = λ x old new leaves whole unwritten. left-room old new leaves.leaves;
      set = λ s old new sets whole unwritten. left-room old new sets.sets.leaves;
    })
    command t now h joined other
  where
    no-write : true ≡ false → ⊥
    no-write e = cc
