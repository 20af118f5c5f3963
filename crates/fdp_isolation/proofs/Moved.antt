-- A pass that was moved keeps apart what was: each copy has the spare of its old page.
use Rattle.std.proofs.Common.{◌≡◌, ◌≢◌, ◌⊎◌, ℕ, zero, suc, ◌<◌, Bool, true, List, [], ◌∷◌, ◌++◌, Option, Some, None, map, refl, sym, ◌∙◌, ap, subst, arith, inl, inr, ⊎_elim}
use Rattle.std.specs.Prelude.{All, Contains, IfSome, IsTrue, slice_index_or, slice_set}
use Rattle.std.specs.List.{list_any}
use Rattle.std.specs.Option.{option_map_or}
use Rattle.std.proofs.lemmas.Bool.{cases_eq}
use Rattle.std.proofs.lemmas.List.Elements.{Contains-append_right}
use Rattle.fdp_base.specs.declared.config.DriveConfig.{DriveConfig}
use Rattle.fdp_base.specs.declared.entry.Copied.{Copied}
use Rattle.fdp_base.specs.declared.entry.Entry.{Entry}
use Rattle.fdp_base.specs.declared.entry.Entry.TheVariants as entries
use Rattle.fdp_base.specs.declared.entry.Moved.{Moved}
use Rattle.fdp_base.specs.declared.entry.Spot.{Spot}
use Rattle.fdp_base.specs.EntryKinds.{puts_into}
use Rattle.fdp_book.specs.Book.{BookSeen, IsLonger, point_in}
use Rattle.fdp_book.specs.Relocating.{MovesPass}
use Rattle.fdp_flash.specs.declared.cell.Cell.{Cell}
use Rattle.fdp_handles.specs.HandleTable.{HandleTable, reference_at}
use Rattle.fdp_history.proofs.Trails.{all-last_run}
use Rattle.fdp_isolation.specs.Laned.{AreLaned, IsKnown}
use Rattle.fdp_isolation.proofs.Entries.{put-before, quiet-one}
use Rattle.fdp_isolation.proofs.Keeping.{TakesNoMore, laned-still}
use Rattle.fdp_isolation.proofs.Trailed.{WasPut, copies-put}
use Rattle.fdp_owners.specs.declared.owner.Owner.{Owner}
use Rattle.fdp_owners.specs.OwnerTable.{owner_at, with_owner}
use Rattle.fdp_book.specs.fdp_pages.PageTables.{copies_at, no_passes, passes_at}
use Rattle.fdp_book.specs.fdp_pages.Steps.{ended_move}
use Rattle.fdp_book.proofs.fdp_pages.Regrouped.{group-low, passes-here, passes-there}
use Rattle.fdp_passes.specs.declared.lane.Lane.{Lane}
use Rattle.fdp_passes.specs.GroupPasses.{GroupPasses, Pass, target_at}
use Rattle.fdp_passes.specs.Due.{copies_in}
use Rattle.fdp_pointers.specs.Facts.{Page}
use Rattle.fdp_pointers.specs.Pointers.{Behind}
use Rattle.fdp_rules.specs.History.{Found, point_of}
use Rattle.fdp_rules.specs.Point.{Copy, Point}
use Rattle.fdp_rules.specs.Sites.{moved_blocks, pass_in, trail_of}
use Rattle.fdp_rules.specs.Step.{Follows}
use Rattle.fdp_book.specs.fdp_trails.Followed.{IsFollowed, IsPassOf, copy_of}
use Rattle.fdp_book.specs.fdp_trails.Moves.{owners_moved, with_moved}
use Rattle.fdp_book.proofs.fdp_trails.Moving.{cases_owner, cases_spot, moved-none, moved-some, owner-here, owner-there}
use Rattle.fdp_units.specs.UnitTable.{Cut, IsGroup}

-- ---- the owners

one : {X : Type 0} {a b : X} → Some a ≡ Some b → a ≡ b
one e = cc

never : {X : Type 0} {x : X} → None ≡ Some x → ⊥
never e = cc

-- a page that gets an owner is the new page of a copy
owned-one : (owners : Spot → Option Owner) (copy : Copied) (spot : Spot) (x : Owner) → with_moved owners copy spot ≡ Some x → ((y : Owner) × (owners spot ≡ Some y)) ⊎ (spot ≡ copy.to)
owned-one owners copy spot x e = ⊎_elim
    (λ (none : owners copy.from ≡ None). inl (x, sym (ap (λ (f : Spot → Option Owner). f spot) (moved-none owners copy none)) ∙ e))
    (λ (some : (w : Owner) × (owners copy.from ≡ Some w)).
    let now : with_owner (with_owner owners copy.from None) copy.to (Some some.0) spot ≡ Some x = sym (ap (λ (f : Spot → Option Owner). f spot) (moved-some owners copy some.0 some.1)) ∙ e in
    ⊎_elim
    (λ (to : spot ≡ copy.to). inr to)
    (λ (ne : spot ≢ copy.to).
    let left : with_owner owners copy.from None spot ≡ Some x = sym (owner-there (with_owner owners copy.from None) copy.to (Some some.0) spot ne) ∙ now in
    ⊎_elim
    (λ (from : spot ≡ copy.from). absurd (never (sym (owner-here owners copy.from None) ∙ ap (with_owner owners copy.from None) (sym from) ∙ left)))
    (λ (other : spot ≢ copy.from). inl (x, sym (owner-there owners copy.from None spot other) ∙ left))
    (cases_spot spot copy.from))
    (cases_spot spot copy.to))
    (cases_owner (owners copy.from))

owned-moved : (copies : List Copied) (owners : Spot → Option Owner) (spot : Spot) (x : Owner) → owners_moved owners copies spot ≡ Some x → ((y : Owner) × (owners spot ≡ Some y)) ⊎ ((copy : Copied) × Contains copies copy × (spot ≡ copy.to))
owned-moved [] owners spot x e = inl (x, e)
owned-moved (copy ∷ copies) owners spot x e = ⊎_elim
    (λ (was : (y : Owner) × (with_moved owners copy spot ≡ Some y)). ⊎_elim (λ before. inl before) (λ (to : spot ≡ copy.to). inr (copy, (zero, omega arith, refl), to)) (owned-one owners copy spot was.0 was.1))
    (λ (of : (other : Copied) × Contains copies other × (spot ≡ other.to)). inr (of.0, (suc of.1.0, omega (arith, of.1.1), of.1.2), of.2))
    (owned-moved copies (with_moved owners copy) spot x e)

-- ---- the copies of a group

contains-mapped : (copies : List Copied) (x : Copied) → Contains copies x → Contains (map copy_of copies) (copy_of x)
contains-mapped [] x has = absurd (omega (arith, has.1))
contains-mapped (y ∷ ys) x (zero, low, is) = (zero, omega arith, ap copy_of is)
contains-mapped (y ∷ ys) x (suc k, low, is) = let rest = contains-mapped ys x (k, omega (arith, low), is) in (suc rest.0, omega (arith, rest.1), rest.2)

all-at : (P : Copy → Type 0) (xs : List Copy) (x : Copy) → All P xs → Contains xs x → P x
all-at P xs x all has = subst P has.2 (all has.0 x has.1)

-- a copy of the pass under way was put by an entry of the run
copy-put : (c : DriveConfig) (es : List Entry) (at : Behind Page) (rg : ℕ) (p : GroupPasses) (copy : Copied) → IsPassOf at (trail_of c es) rg p → Contains (copies_in p) copy → IsTrue (list_any (puts_into copy.to.unit) es)
copy-put c es at rg p copy of has = cases p.pass of has where
  none-has : Contains [] copy → ⊥
  none-has none = omega (arith, none.1)

  cases : (o : Option Pass) → IfSome o (IsFollowed at (trail_of c es) rg) → Contains (option_map_or (λ (pass : Pass). pass.copies) o []) copy → IsTrue (list_any (puts_into copy.to.unit) es)
  cases None is among = absurd (none-has among)
  cases (Some pass) is among =
      let follows = is.follows (λ none. none-has (subst (λ (xs : List Copied). Contains xs copy) none among)) in
      let run : All (WasPut es) (pass_in (trail_of c es) rg) = all-last_run (WasPut es) ((trail_of c es).copies rg) (copies-put c es rg) in
      let both : All (WasPut es) (follows.stale ++ map copy_of pass.copies) = subst (All (WasPut es)) follows.listed run in
      all-at (WasPut es) (follows.stale ++ map copy_of pass.copies) (copy_of copy) both (Contains-append_right follows.stale (map copy_of pass.copies) (copy_of copy) (contains-mapped pass.copies copy among))

-- the passes of a book are those of its history
book-passes : (c : DriveConfig) (f : Found) (es : List Entry) (at : Behind Page) (rg : ℕ) (p : GroupPasses) → IsPassOf at (point_of c f es).trail rg p → IsPassOf at (trail_of c es) rg p
unfolding point_of
book-passes c f es at rg p is = is

-- ---- the move

moved-group : (told : Bool) (c : DriveConfig) (p : Point) (m : Moved) → Follows told c p (entries.Moved m) → m.rg < c.groups
unfolding Follows
moved-group told c p m follows = follows.group

pub laned-moved : (old new : BookSeen) (rg : ℕ) (cells : List Cell) → IsKnown old → MovesPass old new rg
    → AreLaned old cells → AreLaned new cells
laned-moved old new rg cells known moves h =
    let m : Moved = record { rg = rg; blocks = moved_blocks (point_in old) rg } in
    let e : Entry = entries.Moved m in
    let longer : IsLonger old new (e ∷ []) = moves.longer in
    let low : rg < old.config.groups = moved-group true old.config (point_in old) m (moves.follows true) in
    let there : IsGroup old.pages.units rg = subst (λ (k : Cut). rg < k.groups) (sym known.units.cut) low in
    let passes : (k : ℕ) (lane : Lane) → target_at (passes_at new.pages k) lane ≡ target_at (passes_at old.pages k) lane = λ k lane.
    ap (λ (xs : List GroupPasses). target_at (slice_index_or xs k no_passes) lane) moves.passes ∙ ⊎_elim
    (λ (same : k ≡ rg). ap (λ (j : ℕ). target_at (slice_index_or (slice_set old.pages.passes rg (ended_move (passes_at old.pages rg))) j no_passes) lane) same ∙ ap (λ (p : GroupPasses). target_at p lane) (passes-here old.pages rg (ended_move (passes_at old.pages rg)) (group-low old.pages rg known.joined there)) ∙ ap (λ (j : ℕ). target_at (passes_at old.pages j) lane) (sym same))
    (λ (ne : k ≢ rg). ap (λ (p : GroupPasses). target_at p lane) (passes-there old.pages rg k (ended_move (passes_at old.pages rg)) ne))
    (cases_eq k rg) in
    let taken : TakesNoMore old.pages new.pages old.entries new.entries = λ unit t. ⊎_elim
    (λ owned. ⊎_elim
    (λ (was : (y : Owner) × (owner_at old.pages.owners owned.0 ≡ Some y)). inl (owned.0, was.0, was.1, owned.3))
    (λ (of : (copy : Copied) × Contains (copies_at old.pages rg) copy × (owned.0 ≡ copy.to)).
    inr (subst (λ (u : ℕ). IsTrue (list_any (puts_into u) old.entries)) (sym (ap (λ (s : Spot). s.unit) of.2) ∙ owned.3) (copy-put old.config old.entries known.led.at rg (passes_at old.pages rg) of.0 (book-passes old.config old.found old.entries known.led.at rg (passes_at old.pages rg) (known.led.led.passes rg low)) of.1)))
    (owned-moved (copies_at old.pages rg) (owner_at old.pages.owners) owned.0 owned.1 (ap (λ (f : Spot → Option Owner). f owned.0) (sym moves.owners) ∙ owned.2)))
    (λ put. inr (put-before unit old.entries (e ∷ []) refl (subst (λ (xs : List Entry). IsTrue (list_any (puts_into unit) xs)) longer.entries_are put)))
    t in
    laned-still old new (e ∷ []) cells cells (quiet-one true old new e longer refl known.orderly (moves.follows true) h.placed)
    (record {
      classes = ap (λ (x : HandleTable). x.classes) moves.handles;
      filled = λ k ruh unit filled. ap (λ (x : HandleTable). (reference_at x k ruh).unit) (sym moves.handles) ∙ filled;
      targets = λ k unit lane target. sym (passes k lane) ∙ target;
    })
    taken
    (λ unit lies page spare bytes below is. is)
    (λ unit. refl)
    h
