-- The passes of all groups under each entry, and the copy of a step.
use Rattle.std.proofs.Common.{◌≡◌, ◌≢◌, ℕ, ◌<◌, Bool, true, false, cond, List, [], ◌∷◌, ◌++◌, Option, Some, None, refl, sym, ◌∙◌, ap, subst, ◌⊎◌, ⊎_elim, inl, inr}
use Rattle.std.specs.Prelude.{IfSome, IsTrue, MatchOption, option_map}
use Rattle.std.specs.Option.{option_map_or}
use Rattle.std.proofs.lemmas.Bool.{cases_eq}
use Rattle.fdp_base.specs.declared.config.DriveConfig.{DriveConfig}
use Rattle.fdp_base.specs.declared.entry.BlockName.{BlockName}
use Rattle.fdp_base.specs.declared.entry.Copied.{Copied}
use Rattle.fdp_base.specs.declared.entry.Entry.{Entry}
use Rattle.fdp_base.specs.declared.entry.Entry.TheVariants as entries
use Rattle.fdp_base.specs.declared.entry.Placed.{Placed}
use Rattle.fdp_rules.specs.Next.{next}
use Rattle.fdp_rules.specs.Point.{Point, Trail}
use Rattle.fdp_rules.specs.Sites.{group_of, moved_by, pass_in}
use Rattle.fdp_rules.specs.Step.{Follows}
use Rattle.fdp_history.specs.Orderly.{IsOrderly}
use Rattle.fdp_pointers.specs.Contents.{leaves_pages, renamed_by}
use Rattle.fdp_pointers.specs.Facts.{Page, put_at}
use Rattle.fdp_pointers.specs.Pointers.{Behind, moved, pointed, renamed}
use Rattle.fdp_owners.specs.OwnerTable.{OwnerTable}
use Rattle.fdp_passes.specs.declared.due.Due.TheVariants as due
use Rattle.fdp_passes.specs.declared.lane.Lane.{Lane}
use Rattle.fdp_passes.specs.Due.{IsDue, IsShort, copies_in, next_in}
use Rattle.fdp_passes.specs.GroupPasses.{GroupPasses, Pass, begun, with_copy, with_unit_taken}
use Rattle.fdp_passes.specs.Targets.{OpensPage, UsesPage, pass_in as pass_or_new, with_target}
use Rattle.fdp_units.specs.DataUnits.{is_closed}
use Rattle.fdp_units.specs.UnitTable.{IsVictim, UnitTable, state_at}
use Rattle.fdp_trails.specs.Followed.{ArePassesOf, HasNoEarlier, IsFollowed, IsLeft, IsNextCopy, IsPassOf, ended_by}
use Rattle.fdp_trails.proofs.Following.{pass-copied_elsewhere, pass-ended, pass-erased_elsewhere, pass-moved_elsewhere, pass-placed, pass-renamed}
use Rattle.fdp_trails.proofs.Joining.{pass-copied}

-- a pass that is left is that of the trail, where the pass before is
left-of : (at : Behind Page) (t : Trail) (rg : ℕ) (passes now : GroupPasses) → IsLeft passes now → IsPassOf at t rg passes → IsPassOf at t rg now
left-of at t rg passes now left h =
    ⊎_elim
    (λ same. subst (λ (o : Option Pass). IfSome o (IsFollowed at t rg)) (sym same) h)
    (λ none. pass-ended at t rg now none)
    left

pub all-left : (at : Behind Page) (t : Trail) (groups : ℕ) (passes now : ℕ → GroupPasses) → ((rg : ℕ) → rg < groups → IsLeft (passes rg) (now rg)) → ArePassesOf at t groups passes → ArePassesOf at t groups now
all-left at t groups passes now left h rg low = left-of at t rg (passes rg) (now rg) (left rg low) (h rg low)

-- whether it is this number
cases_some : (o : Option ℕ) (n : ℕ) → (o ≡ Some n) ⊎ (o ≢ Some n)
cases_some None n = inr (λ e. cc)
cases_some (Some m) n = ⊎_elim (λ (e : m ≡ n). inl (ap (λ (k : ℕ). Some k) e)) (λ ne. inr (λ e. ne cc)) (cases_eq m n)

pub all-renamed : (c : DriveConfig) (p : Point) (e : Entry) (at : Behind Page) (groups : ℕ) (passes now : ℕ → GroupPasses) → IsTrue (leaves_pages e) → ((rg : ℕ) → rg < groups → IsLeft (passes rg) (now rg)) → ((rg : ℕ) → rg < groups → ended_by c e ≡ Some rg → copies_in (now rg) ≡ [])
    → ArePassesOf at p.trail groups passes → ArePassesOf (renamed (renamed_by p.state e) at) (next c p e).trail groups now
all-renamed c p e at groups passes now leaves left ended h rg low =
    ⊎_elim
    (λ ends. pass-ended (renamed (renamed_by p.state e) at) (next c p e).trail rg (now rg) (ended rg low ends))
    (λ ne. pass-renamed c p e rg at (now rg) leaves ne (left-of at p.trail rg (passes rg) (now rg) (left rg low) (h rg low)))
    (cases_some (ended_by c e) rg)

pub all-placed : (c : DriveConfig) (p : Point) (placed : Placed) (queue index : ℕ) (y : Page) (at : Behind Page) (groups : ℕ) (passes now : ℕ → GroupPasses) → ((rg : ℕ) → rg < groups → IsLeft (passes rg) (now rg)) → ((rg : ℕ) → rg < groups → IfSome (now rg).pass (λ (pass : Pass). y.spot.unit ≢ pass.victim))
    → ArePassesOf at p.trail groups passes → ArePassesOf (pointed at queue index y) (next c p (entries.Placed placed)).trail groups now
all-placed c p placed queue index y at groups passes now left apart h rg low =
    pass-placed c p placed rg queue index y at (now rg) (apart rg low) (left-of at p.trail rg (passes rg) (now rg) (left rg low) (h rg low))

pub all-copied : (told : Bool) (c : DriveConfig) (p : Point) (copy : Copied) (at : Behind Page) (groups : ℕ) (passes now : ℕ → GroupPasses) → Follows told c p (entries.Copied copy) → ((rg : ℕ) → rg < groups → group_of c copy.from.unit ≢ rg → IsLeft (passes rg) (now rg))
    → IsNextCopy (passes (group_of c copy.from.unit)) (now (group_of c copy.from.unit)) copy → (copies_in (passes (group_of c copy.from.unit)) ≡ [] → HasNoEarlier at copy.from)
    → ArePassesOf at p.trail groups passes → ArePassesOf at (next c p (entries.Copied copy)).trail groups now
all-copied told c p copy at groups passes now step left adds early h rg low =
    ⊎_elim
    (λ (own : group_of c copy.from.unit ≡ rg).
    pass-copied told c p rg copy at (passes rg) (now rg) own step (h rg low)
    (subst (λ (k : ℕ). IsNextCopy (passes k) (now k) copy) own adds)
    (subst (λ (k : ℕ). copies_in (passes k) ≡ [] → HasNoEarlier at copy.from) own early))
    (λ ne. pass-copied_elsewhere c p copy rg at (now rg) ne (left-of at p.trail rg (passes rg) (now rg) (left rg low ne) (h rg low)))
    (cases_eq (group_of c copy.from.unit) rg)

pub all-moved : (c : DriveConfig) (p : Point) (rg : ℕ) (blocks : List BlockName) (at : Behind Page) (groups : ℕ) (passes now : ℕ → GroupPasses) → IsOrderly c p → ((other : ℕ) → other < groups → IsLeft (passes other) (now other)) → copies_in (now rg) ≡ []
    → ArePassesOf at p.trail groups passes → ArePassesOf (moved (put_at (moved_by (pass_in p.trail rg))) at) (next c p (entries.Moved (record { rg = rg; blocks = blocks }))).trail groups now
all-moved c p rg blocks at groups passes now orderly left none h other low =
    ⊎_elim
    (λ (own : rg ≡ other). pass-ended (moved (put_at (moved_by (pass_in p.trail rg))) at) (next c p (entries.Moved (record { rg = rg; blocks = blocks }))).trail other (now other) (subst (λ (k : ℕ). copies_in (now k) ≡ []) own none))
    (λ ne. pass-moved_elsewhere c p rg other blocks at (now other) orderly ne (left-of at p.trail other (passes other) (now other) (left other low) (h other low)))
    (cases_eq rg other)

pub all-erased : (c : DriveConfig) (p : Point) (unit : ℕ) (at : Behind Page) (groups : ℕ) (passes now : ℕ → GroupPasses) → ((rg : ℕ) → rg < groups → IsLeft (passes rg) (now rg)) → copies_in (now (group_of c unit)) ≡ []
    → ArePassesOf at p.trail groups passes → ArePassesOf at (next c p (entries.Erased (record { unit = unit }))).trail groups now
all-erased c p unit at groups passes now left none h rg low =
    ⊎_elim
    (λ (own : group_of c unit ≡ rg). pass-ended at (next c p (entries.Erased (record { unit = unit }))).trail rg (now rg) (subst (λ (k : ℕ). copies_in (now k) ≡ []) own none))
    (λ ne. pass-erased_elsewhere c p unit rg at (now rg) ne (left-of at p.trail rg (passes rg) (now rg) (left rg low) (h rg low)))
    (cases_eq (group_of c unit) rg)

-- ---- the copy of a step

-- a pass goes on where it was, in the unit that is emptied
record GoesOn (p : GroupPasses) (victim : ℕ) (pass : Pass) : Type 0 where
  victim_is : pass.victim ≡ victim
  next_is : pass.next ≡ next_in p
  copies_are : pass.copies ≡ copies_in p

opened-in : (p : GroupPasses) (victim : ℕ) (o : Option Pass) → p.pass ≡ o → IfSome o (λ (pass : Pass). pass.victim ≡ victim) → GoesOn p victim (option_map_or (λ (pass : Pass). pass) o (begun victim))
opened-in p victim None e same = record {
  victim_is = refl;
  next_is = ap (λ (o : Option Pass). option_map_or (λ (pass : Pass). pass.next) o 0) (sym e);
  copies_are = ap (λ (o : Option Pass). option_map_or (λ (pass : Pass). pass.copies) o []) (sym e);
}
opened-in p victim (Some pass) e same = record {
  victim_is = same;
  next_is = ap (λ (o : Option Pass). option_map_or (λ (z : Pass). z.next) o 0) (sym e);
  copies_are = ap (λ (o : Option Pass). option_map_or (λ (z : Pass). z.copies) o []) (sym e);
}

-- the unit that is emptied is the victim of the pass under way
emptied : (t : UnitTable) (rg unit : ℕ) (o : Option Pass) → MatchOption o (IsShort t rg × IsVictim t rg unit) (λ (pass : Pass). pass.victim ≡ unit) → IfSome o (λ (pass : Pass). pass.victim ≡ unit)
emptied t rg unit None h = tt
emptied t rg unit (Some pass) h = h

-- the pass of which a page was opened
opened-pass : (p middle : GroupPasses) (t opened : UnitTable) (rg : ℕ) (lane : Lane) (copy : Copied) → IfSome p.pass (λ (pass : Pass). pass.victim ≡ copy.from.unit) → OpensPage p middle t opened rg copy.from.unit lane copy.to → (pass : Pass) × (middle.pass ≡ Some pass) × GoesOn p copy.from.unit pass
opened-pass p middle t opened rg lane copy same h =
    let goes = opened-in p copy.from.unit p.pass refl same in
    ⊎_elim
    (λ has. (pass_or_new p copy.from.unit, ap (λ (g : GroupPasses). g.pass) has.passes, goes))
    (λ takes. (with_unit_taken (pass_or_new p copy.from.unit), ap (λ (g : GroupPasses). g.pass) takes.passes, record { victim_is = goes.victim_is; next_is = goes.next_is; copies_are = goes.copies_are }))
    h.target

-- a full target is none any more, and the pass stays
used-pass : (b : Bool) (lane : Lane) (middle : GroupPasses) → (cond b (with_target lane None middle) middle).pass ≡ middle.pass
used-pass true lane middle = refl
used-pass false lane middle = refl

pub due-next : (o : OwnerTable) (t opened used : UnitTable) (p middle after now : GroupPasses) (rg : ℕ) (lane : Lane) (copy : Copied) → IsDue p t o rg (due.Copy copy.from) → OpensPage p middle t opened rg copy.from.unit lane copy.to → UsesPage middle after opened used lane copy.to.unit → now.pass ≡ option_map (with_copy copy) after.pass
    → IsNextCopy p now copy
due-next o t opened used p middle after now rg lane copy is opens uses adds =
    let same : IfSome p.pass (λ (pass : Pass). pass.victim ≡ copy.from.unit) = emptied t rg copy.from.unit p.pass is.0 in
    let pass = opened-pass p middle t opened rg lane copy same opens in
    let stays : after.pass ≡ middle.pass = ap (λ (g : GroupPasses). g.pass) uses.passes ∙ used-pass (is_closed (state_at used copy.to.unit)) lane middle in
    record {
      pass = with_copy copy pass.0;
      under_way = adds ∙ ap (option_map (with_copy copy)) (stays ∙ pass.1);
      victim = pass.2.victim_is;
      next = refl;
      copies = ap (λ (l : List Copied). l ++ copy ∷ []) pass.2.copies_are;
      same = same;
      behind = is.1.behind;
    }
