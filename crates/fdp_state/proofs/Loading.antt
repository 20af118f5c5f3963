-- A state that is taken apart, and put together again.
use Rattle.std.proofs.Common.{◌≡◌, ℕ, ◌+◌, ◌^◌, ◌<◌, List, length, Option, Some, None, refl, ap, sym, ◌∙◌, subst}
use Rattle.std.specs.Prelude.{IfSome}
use Rattle.fdp_base.specs.declared.config.DriveConfig.{DriveConfig}
use Rattle.fdp_base.specs.Config.{IsInRange}
use Rattle.fdp_base.specs.Placement.{handle_count}
use Rattle.fdp_snapshot.specs.declared.state.State.{State}
use Rattle.fdp_snapshot.specs.declared.state.Summary.{Summary}
use Rattle.fdp_image.specs.BadFields.{HasKnownRows}
use Rattle.fdp_image.specs.Checkpoint.{page_in_lists, reading_of_state}
use Rattle.fdp_image.specs.Reading.{Reading, size_in}
use Rattle.fdp_outline.specs.Outline.{IsOutlineOf, IsWritable}
use Rattle.fdp_outline.specs.Pages.{ArePagesOf}
use Rattle.fdp_outline.proofs.Paging.{outline-state}
use Rattle.fdp_state.specs.declared.parts.Parts.{Parts}
use Rattle.fdp_state.specs.Good.{IsGood, IsSayable}
use Rattle.fdp_state.specs.Loaded.{IsDriveState, IsLoadable, IsLoaded, NamesSizes}
use Rattle.fdp_state.specs.Owners.{AreOwners}
use Rattle.fdp_state.specs.Parts.{IsSound, listed, reading_of}
use Rattle.fdp_state.proofs.Loadable.{loadable}
use Rattle.fdp_state.proofs.Stating.{sayable-of}

-- the outline of a loaded state is one of what it says
own-outline : (c : DriveConfig) (p : Parts) → NamesSizes c p.outline.keys → HasKnownRows (handle_count c p.outline.enabled p.outline.index) p.outline → IsOutlineOf c (reading_of p) p.outline
unfolding reading_of_state
own-outline c p sizes rows = record { sizes = sizes; says = refl; rows = rows }

-- ---- taken apart

module _ (c : DriveConfig) (s : State) (p : Parts) (outline : p.outline ≡ s.summary) (pages : p.pages.items ≡ s.pages) where
  pub said : reading_of p ≡ reading_of_state s
  said = ap (λ (x : Summary). reading_of_state (record { summary = x; pages = p.pages.items })) outline ∙ ap (λ (xs : List (List (Option ℕ))). reading_of_state (record { summary = s.summary; pages = xs })) pages

  taken-sound : IsLoadable s → AreOwners (page_in_lists s.pages) p.owners.items → IsSound p
  taken-sound l owners = record {
    lists = ap length pages ∙ l.lists;
    sizes = λ nsid. ap (λ (xs : List (List (Option ℕ))). listed xs nsid) pages ∙ l.sizes nsid ∙ ap (λ (r : Reading). size_in r nsid) (sym said);
    owners = subst (λ (xs : List (List (Option ℕ))). AreOwners (page_in_lists xs) p.owners.items) (sym pages) owners;
  }

  pub taken : IsInRange c → IsDriveState c s → AreOwners (page_in_lists s.pages) p.owners.items → IsLoaded c p
  taken ranges h owners = record {
    config = ranges;
    sound = taken-sound (loadable s h.writable) owners;
    good = subst (IsGood c) (sym said) h.good;
    sayable = subst IsSayable (sym said) (sayable-of s h.writable);
    outline = own-outline c p (subst (λ (x : Summary). NamesSizes c x.keys) (sym outline) h.keys) (subst (λ (x : Summary). HasKnownRows (handle_count c x.enabled x.index) x) (sym outline) h.rows);
  }

-- ---- put together

fits-each : (o : Option ℕ) → ((page : ℕ) → o ≡ Some page → page + 1 < 2 ^ 32) → IfSome o (λ page. page + 1 < 2 ^ 32)
fits-each None each = tt
fits-each (Some page) each = each page refl

own-pages : (p : Parts) → IsSound p → IsSayable (reading_of p) → ArePagesOf (reading_of p) p.pages.items
unfolding reading_of_state
own-pages p h k = record { places = h.lists; sizes = h.sizes; pages = λ nsid lba. refl; fit = λ nsid lba. fits-each (page_in_lists p.pages.items nsid lba) (k.pages nsid lba) }

abbrev pub together : Parts → State
together p = record { summary = p.outline; pages = p.pages.items }

pub put-together : (c : DriveConfig) (p : Parts) → IsLoaded c p → IsWritable p.outline → IsDriveState c (together p)
put-together c p h writable = record {
  writable = outline-state c (reading_of p) p.outline p.pages.items h.outline writable (own-pages p h.sound h.sayable);
  keys = h.outline.sizes;
  good = h.good;
  rows = h.outline.rows;
}
