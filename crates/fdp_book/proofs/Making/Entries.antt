-- The changes by which entries are saved.
use Rattle.std.proofs.lemmas.Bool.{and_parts}
use Rattle.std.proofs.Common.{◌≡◌, ℕ, ◌+◌, Bool, true, false, [], length, map, Option, Some, None, refl, ap, sym, ◌∙◌, subst, arith}
use Rattle.std.proofs.lemmas.List.{length-map}
use Rattle.std.specs.Prelude.{◌&&◌, IsFalse, IsTrue, if◌then◌else◌, is_some, nat_lt}
use Rattle.std.specs.Option.{option_map_or}
use Rattle.fdp_base.specs.declared.command.Command.{Command}
use Rattle.fdp_base.specs.declared.command.Command.TheVariants as commands
use Rattle.fdp_base.specs.declared.command.Write.{Write}
use Rattle.fdp_base.specs.declared.config.DriveConfig.{DriveConfig}
use Rattle.fdp_base.specs.declared.entry.Entry.{Entry}
use Rattle.fdp_base.specs.declared.entry.Entry.TheVariants as entries
use Rattle.fdp_base.specs.declared.entry.Reply.{Reply}
use Rattle.fdp_base.specs.declared.entry.Totals.{Totals}
use Rattle.fdp_base.specs.CommandKinds.{blocks_written, is_saved, is_write, write_of}
use Rattle.fdp_base.specs.Config.{IsValidConfig}
use Rattle.fdp_base.specs.Placement.{geometry_of}
use Rattle.fdp_flash.specs.Layout.{page_number}
use Rattle.fdp_history.specs.Orderly.{IsOrderly}
use Rattle.fdp_history.specs.Standing.{IsStanding}
use Rattle.fdp_image.specs.Fits.{are_born, names_what_is}
use Rattle.fdp_image.specs.Reading.{Reading}
use Rattle.fdp_book.specs.Book.{BookSeen, point_in, state_in}
use Rattle.fdp_book.specs.Changes.{IsChangeOf, IsChangeOfEntry, IsWriteOf, blocks_of_change, totals_behind}
use Rattle.fdp_outline.specs.Events.{ListsMoved}
use Rattle.fdp_readings.specs.Changes.{FitsDrawn, Saves, change_of_write, completed}
use Rattle.fdp_readings.specs.Drawn.{drawn}
use Rattle.fdp_readings.proofs.Commanding.{create-saved, dealloc-saved, delete-saved, kinds-saved, placement-saved, update-saved, zero-saved}
use Rattle.fdp_readings.proofs.Fitting.{create-fits, dealloc-fits, delete-fits, kinds-fit, placement-fits, shut-fits, update-fits, write-fits, zero-fits}
use Rattle.fdp_readings.proofs.Saving.{shut-drawn, write-drawn}
use Rattle.fdp_records.specs.declared.change.Change.{Change}
use Rattle.fdp_records.specs.declared.change.Change.TheVariants as changes
use Rattle.fdp_rules.specs.Next.{totals_with}
use Rattle.fdp_rules.specs.Totals.{erases_of, host_blocks_of, media_blocks_of}
use Rattle.fdp_rules.specs.PlainState.{Going, PlainState}
use Rattle.fdp_rules.specs.Point.{Point}
use Rattle.fdp_rules.proofs.Effects.{by-saved}
use Rattle.fdp_rules.specs.Refusal.{refusal_of}
use Rattle.fdp_rules.specs.Step.{IsHandle, MaySucceed}

-- ---- the change saves its entry

pub change-saves : (c : DriveConfig) (p : Point) (queue number : ℕ) (command : Command) (reply : Reply) (moment : ℕ) (change : Change) → IsOrderly c p → IsTrue reply.applied → IsTrue (is_saved command) → IsFalse (is_write command)
    → IsChangeOf c p.state command change → Saves c p change (completed queue number command reply moment)
change-saves c p queue number command reply moment change orderly applied saved other =
    by-saved (λ x. IsChangeOf c p.state x change → Saves c p change (completed queue number x reply moment))
    (record {
      zero = λ z is. subst (λ (x : Change). Saves c p x (completed queue number (commands.Zero z) reply moment)) (sym is) (zero-saved c p queue number z reply moment applied);
      dealloc = λ d gone is. subst (λ (x : Change). Saves c p x (completed queue number (commands.Dealloc d) reply moment)) (sym is) (dealloc-saved c p queue number d reply moment applied gone);
      delete = λ d is. subst (λ (x : Change). Saves c p x (completed queue number (commands.Delete d) reply moment)) (sym is) (delete-saved c p queue number d reply moment applied);
      update = λ u is. subst (λ (x : Change). Saves c p x (completed queue number (commands.Update u) reply moment)) (sym is.change_is) (update-saved c p queue number u reply moment is.closed orderly applied is.tells);
      set_fdp = λ set is. subst (λ (x : Change). Saves c p x (completed queue number (commands.SetFdp set) reply moment)) (sym is) (placement-saved c p queue number set reply moment applied);
      set_events = λ set is. subst (λ (x : Change). Saves c p x (completed queue number (commands.SetEvents set) reply moment)) (sym is.change_is) (kinds-saved c p queue number set reply moment is.mask applied is.kinds);
      create = λ create is. subst (λ (x : Change). Saves c p x (completed queue number (commands.Create create) reply moment)) (sym is) (create-saved c p queue number create reply moment orderly applied);
    })
    command saved other

-- ---- it fits what is drawn

pub change-fits : (c : DriveConfig) (p : Point) (command : Command) (change : Change) (e : Entry) → IsValidConfig c → IsOrderly c p → refusal_of c p command ≡ None → IsTrue (is_saved command) → IsFalse (is_write command)
    → IsChangeOf c p.state command change → FitsDrawn c p change e
change-fits c p command change e valid orderly accepted saved other =
    by-saved (λ x. refusal_of c p x ≡ None → IsChangeOf c p.state x change → FitsDrawn c p change e)
    (record {
      zero = λ z none is. subst (λ (x : Change). FitsDrawn c p x e) (sym is) (zero-fits c p orderly e z none);
      dealloc = λ d gone none is. subst (λ (x : Change). FitsDrawn c p x e) (sym is) (dealloc-fits c p orderly e d none);
      delete = λ d none is. subst (λ (x : Change). FitsDrawn c p x e) (sym is) (delete-fits c p orderly e d none);
      update = λ u none is. subst (λ (x : Change). FitsDrawn c p x e) (sym is.change_is) (update-fits c p orderly e u is.closed none);
      set_fdp = λ set none is. subst (λ (x : Change). FitsDrawn c p x e) (sym is) (placement-fits c p orderly e set (p.state.generation + 1) none);
      set_events = λ set none is. subst (λ (x : Change). FitsDrawn c p x e) (sym is.change_is) (kinds-fit c p orderly e set.nsid set.handle is.mask set.enable valid is.known);
      create = λ create none is. subst (λ (x : Change). FitsDrawn c p x e) (sym is) (create-fits c p create (create.given && nat_lt 0 (length create.list)) e valid orderly none);
    })
    command saved other accepted

-- ---- it moves no block

pub change-still : (c : DriveConfig) (p : Point) (r : Reading) (command : Command) (change : Change) → IsTrue (is_saved command) → IsFalse (is_write command) → IsChangeOf c p.state command change → ListsMoved c r change []
change-still c p r command change saved other =
    by-saved (λ x. IsChangeOf c p.state x change → ListsMoved c r change [])
    (record {
      zero = λ z is. subst (λ (x : Change). ListsMoved c r x []) (sym is) tt;
      dealloc = λ d gone is. subst (λ (x : Change). ListsMoved c r x []) (sym is) tt;
      delete = λ d is. subst (λ (x : Change). ListsMoved c r x []) (sym is) tt;
      update = λ u is. subst (λ (x : Change). ListsMoved c r x []) (sym is.change_is) tt;
      set_fdp = λ set is. subst (λ (x : Change). ListsMoved c r x []) (sym is) tt;
      set_events = λ set is. subst (λ (x : Change). ListsMoved c r x []) (sym is.change_is) tt;
      create = λ create is. subst (λ (x : Change). ListsMoved c r x []) (sym is) tt;
    })
    command saved other

-- what fits names what there is
pub fit-names : (c : DriveConfig) (p : Point) (change : Change) (e : Entry) → FitsDrawn c p change e → names_what_is c (drawn c p) change ≡ true
fit-names c p change e fits = (and_parts (are_born (drawn c p) (totals_with p.totals e).position) (names_what_is c (drawn c p) change) fits).1

-- ---- the sums behind it

plus-zero : (n k : ℕ) → k ≡ 0 → n ≡ n + k
plus-zero n k none = omega (arith, none)

-- the totals behind a change that writes the blocks of its entry, where the entry programs no page and erases no unit
pub totals-entry : (t : Totals) (e : Entry) (change : Change) → blocks_of_change change ≡ host_blocks_of e → media_blocks_of e ≡ 0 → erases_of e ≡ 0 → totals_behind t change ≡ totals_with t e
totals-entry t e change blocks media erased =
    ap (λ (n : ℕ). record { position = t.position + 1; host_blocks = t.host_blocks + n; media_blocks = t.media_blocks; erases = t.erases }) blocks
    ∙ ap (λ (n : ℕ). record { position = t.position + 1; host_blocks = t.host_blocks + host_blocks_of e; media_blocks = n; erases = t.erases }) (plus-zero t.media_blocks (media_blocks_of e) media)
    ∙ ap (λ (n : ℕ). record { position = t.position + 1; host_blocks = t.host_blocks + host_blocks_of e; media_blocks = t.media_blocks + media_blocks_of e; erases = n }) (plus-zero t.erases (erases_of e) erased)

-- a command other than a write writes no block, and so does its change
none-written : (o : Option Write) → is_some o ≡ false → option_map_or (λ (w : Write). w.count) o 0 ≡ 0
none-written None e = refl
none-written (Some w) e = absurd cc

no-blocks : (command : Command) (applied : Bool) → IsFalse (is_write command) → (if applied then blocks_written command else 0) ≡ 0
no-blocks command true other = none-written (write_of command) other
no-blocks command false other = refl

change-empty : (c : DriveConfig) (s : PlainState) (command : Command) (change : Change) → IsTrue (is_saved command) → IsFalse (is_write command) → IsChangeOf c s command change → blocks_of_change change ≡ 0
change-empty c s command change saved other =
    by-saved (λ x. IsChangeOf c s x change → blocks_of_change change ≡ 0)
    (record {
      zero = λ z is. ap blocks_of_change is;
      dealloc = λ d gone is. ap blocks_of_change is;
      delete = λ d is. ap blocks_of_change is;
      update = λ u is. ap blocks_of_change is.change_is;
      set_fdp = λ set is. ap blocks_of_change is;
      set_events = λ set is. ap blocks_of_change is.change_is;
      create = λ create is. ap blocks_of_change is;
    })
    command saved other

-- ---- the change of an entry

-- of a command other than a write
pub of-command : (c : DriveConfig) (p : Point) (queue number : ℕ) (command : Command) (reply : Reply) (moment : ℕ) (change : Change) → IsValidConfig c → IsOrderly c p → refusal_of c p command ≡ None → IsTrue (is_saved command) → IsFalse (is_write command)
    → IsChangeOf c p.state command change → IsTrue reply.applied → IsChangeOfEntry c p (completed queue number command reply moment) change []
of-command c p queue number command reply moment change valid orderly accepted saved other is applied =
    let e : Entry = completed queue number command reply moment in
    record {
      saves = change-saves c p queue number command reply moment change orderly applied saved other is;
      fits = change-fits c p command change e valid orderly accepted saved other is;
      totals = totals-entry p.totals e change (change-empty c p.state command change saved other is ∙ sym (no-blocks command reply.applied other)) refl refl;
      lists = change-still c p (drawn c p) command change saved other is;
    }

-- of a going write that may succeed
pub of-write : (b : BookSeen) (queue number : ℕ) (w : Write) (reply : Reply) (moment : ℕ) (g : Going) (change : Change) → IsOrderly b.config (point_in b) → IsStanding b.config (point_in b) → (state_in b).going queue ≡ Some g → g.command ≡ commands.Write w → MaySucceed b.config (point_in b) g
    → IsWriteOf b g w change → IsTrue reply.applied → IsChangeOfEntry b.config (point_in b) (completed queue number (commands.Write w) reply moment) change []
of-write b queue number w reply moment g change orderly standing going command may is applied =
    let c : DriveConfig = b.config in
    let p : Point = point_in b in
    let e : Entry = completed queue number (commands.Write w) reply moment in
    let count : length (map (page_number (geometry_of c)) is.spots) ≡ w.count = length-map is.spots (page_number (geometry_of c)) ∙ is.pages.size ∙ ap blocks_written command in
    subst (λ (x : Change). IsChangeOfEntry c p e x []) (sym is.change_is) (record {
      saves = write-drawn c p queue number w reply moment g is.spots orderly standing going command may is.pages applied;
      fits = write-fits c p queue w g is.spots orderly going command may is.pages e;
      totals = totals-entry p.totals e (change_of_write c w g is.spots) (count ∙ ap (λ (x : Bool). if x then w.count else 0) (sym applied)) refl refl;
      lists = tt;
    })

-- that a handle was left without a unit
pub of-shut : (c : DriveConfig) (p : Point) (rg ruh : ℕ) → IsOrderly c p → IsHandle c p rg ruh → IsChangeOfEntry c p (entries.Shut (record { rg = rg; ruh = ruh })) (changes.Shut rg ruh) []
of-shut c p rg ruh orderly is =
    let e : Entry = entries.Shut (record { rg = rg; ruh = ruh }) in
    record {
      saves = shut-drawn c p rg ruh orderly;
      fits = shut-fits c p orderly e rg ruh is;
      totals = totals-entry p.totals e (changes.Shut rg ruh) refl refl refl;
      lists = tt;
    }
