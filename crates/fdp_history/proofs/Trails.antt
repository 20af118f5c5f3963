-- What each entry that may follow leaves of sites and copies.
use Rattle.std.proofs.Common.{◌≡◌, ℕ, ◌+◌, Bool, true, false, cond, find, List, [], ◌∷◌, Option, Some, None, refl, sym, subst, arith}
use Rattle.std.specs.Prelude.{◌==◌, ◌&&◌, All, if◌then◌else◌, option_and_then, option_map}
use Rattle.std.specs.Option.{option_map_or}
use Rattle.std.proofs.lemmas.Bool.{and_parts, eqb-true}
use Rattle.std.proofs.lemmas.List.Elements.{All-head, All-nil, All-push, All-tail}
use Rattle.fdp_base.specs.declared.config.DriveConfig.{DriveConfig}
use Rattle.fdp_base.specs.declared.entry.Entry.{Entry}
use Rattle.fdp_base.specs.declared.entry.Entry.TheVariants as entries
use Rattle.fdp_base.specs.declared.entry.Spot.{Spot}
use Rattle.fdp_base.specs.Numbers.{with_at}
use Rattle.fdp_rules.specs.PlainState.{PageName.written}
use Rattle.fdp_rules.specs.Point.{Copy, Point, Trail}
use Rattle.fdp_rules.specs.Sites.{ascends, is_page_of, is_spot, last_run, moved_by, outside, pass_in, traced_by}
use Rattle.fdp_rules.specs.Step.{Follows, IsPage, IsPlaced}
use Rattle.fdp_history.specs.Orderly.{IsOrderlyCopy, IsOrderlySite}
use Rattle.fdp_history.specs.OrderlyState.{IsOrderlyState}
use Rattle.fdp_history.proofs.Tables.{with_at-each}

-- sites and copies that are orderly, at a position
pub record IsOrderlyTrail (c : DriveConfig) (position : ℕ) (t : Trail) : Type 0 where
  pub sites : (ticket index : ℕ) (spot : Spot) → t.site (written ticket index) ≡ Some spot → IsOrderlySite c position ticket index spot
  pub copies : (rg : ℕ) → All (IsOrderlyCopy c rg) (t.copies rg)

pub site-later : (c : DriveConfig) (position ticket index : ℕ) (spot : Spot) → IsOrderlySite c position ticket index spot → IsOrderlySite c (position + 1) ticket index spot
site-later c position ticket index spot h = record { ticket_is = (h.ticket_is.0, omega (arith, h.ticket_is.1)); index_is = h.index_is; page = h.page }

-- ---- a pass

pub all-last_run : (P : Copy → Type 0) (xs : List Copy) → All P xs → All P (last_run xs)
all-last_run P [] h = All-nil P
all-last_run P (x ∷ xs) h = elim (ascends (x ∷ xs)) as (λ b. All P (cond b (x ∷ xs) (last_run xs))) [ true ↦ h | false ↦ all-last_run P xs (All-tail P x xs h) ]

pub find-all : (P : Copy → Type 0) (test : Copy → Bool) (xs : List Copy) (x : Copy) → All P xs → find test xs ≡ Some x → P x × (test x ≡ true)
find-all P test [] x h e = absurd cc
find-all P test (y ∷ ys) x h e =
    let Q : Bool → Type 0 = λ b. test y ≡ b → cond b (Some y) (find test ys) ≡ Some x → P x × (test x ≡ true) in
    elim (test y) as Q [
      | true ↦ λ t some. let same : y ≡ x = cc in (subst P same (All-head P y ys h), subst (λ z. test z ≡ true) same t)
      | false ↦ λ t some. find-all P test ys x (All-tail P y ys h) some
    ] refl e

-- a page moves to its copy, or stays
pub moved-page : (c : DriveConfig) (rg : ℕ) (pass : List Copy) (spot : Spot) → All (IsOrderlyCopy c rg) pass → IsPage c spot → IsPage c (moved_by pass spot)
moved-page c rg pass spot copies page =
    let P : Option Copy → Type 0 = λ o. find (λ (x : Copy). is_spot x.from spot) pass ≡ o → IsPage c (option_map_or (λ (x : Copy). x.to) o spot) in
    elim (find (λ (x : Copy). is_spot x.from spot) pass) as P [
      | None ↦ λ _. page
      | Some x ↦ λ e. (find-all (IsOrderlyCopy c rg) (λ (y : Copy). is_spot y.from spot) pass x copies e).0.to
    ] refl

-- what stood at a page before it moved
pub was-before : (f : Spot → Spot) (o : Option Spot) (spot : Spot) → option_map f o ≡ Some spot → (old : Spot) × (o ≡ Some old) × (f old ≡ spot)
was-before f None spot e = absurd cc
was-before f (Some old) spot e = (old, refl, cc)

-- what stands outside of a unit stood there before
pub stood-before : (unit : ℕ) (o : Option Spot) (spot : Spot) → option_and_then (outside unit) o ≡ Some spot → o ≡ Some spot
stood-before unit None spot e = e
stood-before unit (Some old) spot e = (elim (old.unit == unit) as (λ b. cond b None (Some old) ≡ Some spot → Some old ≡ Some spot) [ true ↦ λ none. absurd cc | false ↦ λ some. some ]) e

-- ---- an entry

copies-at : (c : DriveConfig) (copies : ℕ → List Copy) (rg : ℕ) (xs : List Copy) → All (IsOrderlyCopy c rg) xs → ((k : ℕ) → All (IsOrderlyCopy c k) (copies k)) → (k : ℕ) → All (IsOrderlyCopy c k) (with_at copies rg xs k)
copies-at c copies rg xs here all = with_at-each copies rg xs (λ k ys. All (IsOrderlyCopy c k) ys) here (λ k ne. all k)

none-copied : (c : DriveConfig) (copies : ℕ → List Copy) (rg : ℕ) → ((k : ℕ) → All (IsOrderlyCopy c k) (copies k)) → (k : ℕ) → All (IsOrderlyCopy c k) (with_at copies rg [] k)
none-copied c copies rg all = copies-at c copies rg [] (All-nil (IsOrderlyCopy c rg)) all

placed-site : (c : DriveConfig) (p : Point) (ticket index unit page : ℕ) → IsPlaced c p ticket index unit page → IsOrderlyState c p.state → IsOrderlySite c p.state.position ticket index (record { unit = unit; page = page })
placed-site c p ticket index unit page placed h =
    let write = h.writes placed.queue placed.going placed.going_is in
    record {
      ticket_is = (omega (arith, write.ticket.0, placed.same), omega (arith, write.ticket.1, placed.same));
      index_is = omega (arith, placed.asked, write.count.1);
      page = placed.spot;
    }

placed-sites : (c : DriveConfig) (p : Point) (ticket index unit page : ℕ) → IsPlaced c p ticket index unit page → IsOrderlyState c p.state → IsOrderlyTrail c p.state.position p.trail → (t i : ℕ) (spot : Spot)
    → (if is_page_of ticket index (written t i) then Some (record { unit = unit; page = page }) else p.trail.site (written t i)) ≡ Some spot → IsOrderlySite c p.state.position t i spot
placed-sites c p ticket index unit page placed state h t i spot e =
    let new : Spot = record { unit = unit; page = page } in
    let P : Bool → Type 0 = λ b. (ticket == t && index == i) ≡ b → cond b (Some new) (p.trail.site (written t i)) ≡ Some spot → IsOrderlySite c p.state.position t i spot in
    elim (ticket == t && index == i) as P [
      | true ↦ λ here some.
          let both = and_parts (ticket == t) (index == i) here in
          let at : new ≡ spot = cc in
          let first = placed-site c p ticket index unit page placed state in
          subst (λ (k : ℕ). IsOrderlySite c p.state.position k i spot) (eqb-true ticket t both.0)
          (subst (λ (k : ℕ). IsOrderlySite c p.state.position ticket k spot) (eqb-true index i both.1)
          (subst (IsOrderlySite c p.state.position ticket index) at first))
      | false ↦ λ there some. h.sites t i spot some
    ] refl e

pub trail-next : (told : Bool) (c : DriveConfig) (p : Point) (e : Entry) → Follows told c p e → IsOrderlyState c p.state → IsOrderlyTrail c p.state.position p.trail → IsOrderlyTrail c (p.state.position + 1) (traced_by c p.trail e)
unfolding Follows traced_by
trail-next told c p (entries.Host host) step state h = record { sites = λ t i spot e. site-later c p.state.position t i spot (h.sites t i spot e); copies = h.copies }
trail-next told c p (entries.Started s) step state h = record { sites = λ t i spot e. site-later c p.state.position t i spot (h.sites t i spot e); copies = h.copies }
trail-next told c p (entries.Placed placed) step state h = record {
  sites = λ t i spot e. site-later c p.state.position t i spot (placed-sites c p placed.ticket placed.index placed.unit placed.page step state h t i spot e);
  copies = h.copies;
}
trail-next told c p (entries.Copied copied) step state h = record {
  sites = λ t i spot e. site-later c p.state.position t i spot (h.sites t i spot e);
  copies = copies-at c p.trail.copies _ _ (All-push (IsOrderlyCopy c _) _ (record { from = copied.from; to = copied.to }) (h.copies _) (record { from = step.from; to = step.to; from_group = refl; to_group = sym step.group })) h.copies;
}
trail-next told c p (entries.Moved m) step state h = record {
  sites = λ t i spot e.
      let was = was-before (moved_by (pass_in p.trail m.rg)) (p.trail.site (written t i)) spot e in
      let before = h.sites t i was.0 was.1 in
      record {
        ticket_is = (before.ticket_is.0, omega (arith, before.ticket_is.1));
        index_is = before.index_is;
        page = subst (IsPage c) was.2 (moved-page c m.rg (pass_in p.trail m.rg) was.0 (all-last_run (IsOrderlyCopy c m.rg) (p.trail.copies m.rg) (h.copies m.rg)) before.page);
      };
  copies = none-copied c p.trail.copies m.rg h.copies;
}
trail-next told c p (entries.Erased erased) step state h = record {
  sites = λ t i spot e. site-later c p.state.position t i spot (h.sites t i spot (stood-before erased.unit (p.trail.site (written t i)) spot e));
  copies = none-copied c p.trail.copies _ h.copies;
}
trail-next told c p (entries.Retired r) step state h = record { sites = λ t i spot e. site-later c p.state.position t i spot (h.sites t i spot e); copies = none-copied c p.trail.copies _ h.copies }
trail-next told c p (entries.Aside a) step state h = record { sites = λ t i spot e. site-later c p.state.position t i spot (h.sites t i spot e); copies = none-copied c p.trail.copies _ h.copies }
trail-next told c p (entries.Shut s) step state h = record { sites = λ t i spot e. site-later c p.state.position t i spot (h.sites t i spot e); copies = h.copies }
trail-next told c p (entries.Worn w) step state h = record { sites = λ t i spot e. site-later c p.state.position t i spot (h.sites t i spot e); copies = none-copied c p.trail.copies w.rg h.copies }
trail-next told c p entries.Reopened step state h = record { sites = λ t i spot e. site-later c p.state.position t i spot (h.sites t i spot e); copies = h.copies }
