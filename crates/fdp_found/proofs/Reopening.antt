-- What the first entry of a run over an image leaves: that it was opened.
use Rattle.std.proofs.Common.{◌≡◌, ℕ, Bool, true, [], ◌∷◌, Option, Some, None, refl, sym, ap, subst, arith}
use Rattle.std.specs.Prelude.{◌&&◌, IsTrue, option_map}
use Rattle.fdp_base.specs.declared.config.DriveConfig.{DriveConfig}
use Rattle.fdp_base.specs.declared.entry.Entry.TheVariants as entries
use Rattle.fdp_base.specs.declared.entry.Spot.{Spot}
use Rattle.fdp_base.specs.Config.{IsValidConfig}
use Rattle.fdp_history.proofs.Listing.{listed-next}
use Rattle.fdp_history.proofs.Points.{orderly-next}
use Rattle.fdp_history.proofs.Standing.{standing-next}
use Rattle.fdp_history.specs.Listed.{IsListed}
use Rattle.fdp_history.specs.Orderly.{IsOrderly}
use Rattle.fdp_history.specs.Standing.{IsStanding}
use Rattle.fdp_locations.proofs.Kept.{holds-same, led-still}
use Rattle.fdp_locations.specs.Located.{AreLed, AreUnitsOf}
use Rattle.fdp_locations.specs.Written.{Written, written_by, written_from}
use Rattle.fdp_owners.specs.Owned.{AreOwners}
use Rattle.fdp_owners.specs.OwnerTable.{owner_at}
use Rattle.fdp_locations.specs.fdp_pages.PageTables.{PageTables, passes_at}
use Rattle.fdp_pointers.specs.Facts.{Page}
use Rattle.fdp_pointers.specs.Pointers.{Behind, Pointer, Pointer.of_block, Pointer.of_flight, is_block, only, renamed}
use Rattle.fdp_rules.proofs.Pushes.{point_of-push}
use Rattle.fdp_rules.specs.Change.{after, changed_by}
use Rattle.fdp_rules.specs.History.{Found, first_state, point_of, state_of}
use Rattle.fdp_rules.specs.Legal.{IsLegal, IsLegalAfter}
use Rattle.fdp_rules.specs.Next.{next}
use Rattle.fdp_rules.specs.PlainState.{Going}
use Rattle.fdp_rules.specs.Point.{Point}
use Rattle.fdp_rules.specs.Step.{Follows}
use Rattle.fdp_locations.proofs.fdp_trails.Following.{pass-renamed}

module _ (c : DriveConfig) (f : Found) where
  abbrev begin : Point
  begin = point_of c f []

  abbrev opened : Point
  opened = point_of c f (entries.Reopened ∷ [])

  is-next : opened ≡ next c begin entries.Reopened
  is-next = point_of-push c f [] entries.Reopened

  pub may-follow : (told : Bool) → IsTrue f.is_image → Follows told c begin entries.Reopened
  unfolding Follows point_of
  may-follow told image = ap (λ (b : Bool). b && true) image

  pub legal-opened : (told : Bool) → IsTrue f.is_image → IsLegal told c f (entries.Reopened ∷ [])
  unfolding IsLegalAfter
  legal-opened told image = (may-follow told image, tt)

  pub orderly-opened : IsValidConfig c → IsTrue f.is_image → IsOrderly c begin → IsOrderly c opened
  orderly-opened config image h = subst (IsOrderly c) (sym is-next) (orderly-next true c begin entries.Reopened config h (may-follow true image))

  pub standing-opened : IsTrue f.is_image → IsOrderly c begin → IsStanding c begin → IsStanding c opened
  standing-opened image orderly h = subst (IsStanding c) (sym is-next) (standing-next true c begin entries.Reopened orderly h (may-follow true image))

  pub listed-opened : IsTrue f.is_image → IsOrderly c begin → IsListed c (first_state c f) → IsListed c (state_of c f (entries.Reopened ∷ []))
  unfolding point_of state_of
  listed-opened image orderly h = listed-next true c begin entries.Reopened orderly.state h (may-follow true image)

  -- ---- tables

  pub units-reopened : (t : PageTables) → AreUnitsOf c begin.state t → AreUnitsOf c opened.state t
  unfolding point_of state_of first_state after changed_by
  units-reopened t h = record {
    cut = h.cut;
    agrees = record { units = h.agrees.units; lost = h.agrees.lost; worn = h.agrees.worn };
    unit_pages = h.unit_pages;
    groups = h.groups;
    classes = h.classes;
    references = h.references;
  }

  module _ (first : Spot → Option Written) (at : Behind Page) (t : PageTables) (image : IsTrue f.is_image) (orderly : IsOrderly c begin) (h : AreLed c begin first at t) where
    -- no write is going when a run begins
    none-flies : (queue index : ℕ) → at (of_flight queue index) ≡ None
    unfolding point_of state_of first_state
    none-flies queue index = of (at (of_flight queue index)) (h.table.follows (of_flight queue index)) where
      of : (o : Option Page) → None ≡ option_map (λ (y : Page). Some y.spot) o → o ≡ None
      of None e = refl
      of (Some y) e = absurd cc

    same-at : (p : Pointer) → renamed (only is_block) at p ≡ at p
    same-at (of_block nsid lba) = refl
    same-at (of_flight queue index) = sym (none-flies queue index)

    same : renamed (only is_block) at ≡ at
    same = λ d p. same-at p d

    led-next : AreLed c (next c begin entries.Reopened) first (renamed (only is_block) at) t
    led-next =
        led-still true c begin entries.Reopened first first at t t orderly.state (may-follow true image) refl
        (holds-same first (renamed (only is_block) at))
        (subst (AreOwners (owner_at t.owners)) (sym same) h.owned)
        (λ queue index g y going there. absurd (none-going queue index g y going there))
        (λ unit. omega arith)
        (λ rg low. pass-renamed c begin entries.Reopened rg at (passes_at t rg) refl (λ ended. never ended) (h.passes rg low))
        h.copies h
      where
        never : {X : Type 0} {x : X} → None ≡ Some x → ⊥
        never e = cc

        none-going : (queue index : ℕ) (g : Going) (y : Page) → (next c begin entries.Reopened).state.going queue ≡ Some g → renamed (only is_block) at (of_flight queue index) ≡ Some y → ⊥
        none-going queue index g y going there = never there

    pub led-reopened : AreLed c opened (written_by c f first (entries.Reopened ∷ [])) at t
    unfolding written_from
    led-reopened = subst (λ (p : Point). AreLed c p first at t) (sym is-next) (subst (λ (a : Behind Page). AreLed c (next c begin entries.Reopened) first a t) same led-next)
