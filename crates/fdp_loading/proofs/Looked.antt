-- A flash that was only looked at.
use Rattle.std.proofs.Common.{◌≡◌, ℕ, ◌+◌, List, IsTrue, sym, subst}
use Rattle.fdp_base.specs.declared.config.Geometry.{Geometry}
use Rattle.fdp_flash.specs.declared.cell.Cell.{Cell}
use Rattle.fdp_flash.specs.FlashState.{FlashState}
use Rattle.fdp_flash.specs.OnlyReads.{ReadsOnly}
use Rattle.fdp_flash.proofs.OnlyReads.{no_read, reads_joined}
use Rattle.fdp_keeper.specs.fdp_recovery.Walking.{OnlyLooks}

-- a flash with the same cut, and the same cells where it tells them
pub record IsAlike (old new : FlashState) : Type 0 where
  pub geometry : new.geometry ≡ old.geometry
  pub told : new.told ≡ old.told
  pub cells : IsTrue old.told → new.cells ≡ old.cells

pub looks-of : (most : ℕ) (old new : FlashState) → ReadsOnly most old new → OnlyLooks old new
looks-of most old new h = record { most = most; reads = h }

pub looks-none : (s : FlashState) → OnlyLooks s s
looks-none s = looks-of 0 s s (no_read s)

pub looks-joined : (a b c : FlashState) → OnlyLooks a b → OnlyLooks b c → OnlyLooks a c
looks-joined a b c x y = looks-of (x.most + y.most) a c (reads_joined x.most y.most a b c x.reads y.reads)

pub alike-looks : (old new : FlashState) → OnlyLooks old new → IsAlike old new
alike-looks old new h = record {
  geometry = h.reads.held.run.geometry;
  told = h.reads.held.run.told;
  cells = h.reads.held.cells;
}

pub alike-back : (old new : FlashState) → IsAlike old new → IsAlike new old
alike-back old new h = record {
  geometry = sym h.geometry;
  told = sym h.told;
  cells = λ told. sym (h.cells (subst IsTrue h.told told));
}

-- what is told of the cells of one is told of those of the other
pub told-over : (P : Geometry → List Cell → Type 0) (old new : FlashState) → IsAlike old new → (IsTrue old.told → P old.geometry old.cells) → IsTrue new.told → P new.geometry new.cells
told-over P old new a h told =
    let was : IsTrue old.told = subst IsTrue a.told told in
    subst (λ (g : Geometry). P g new.cells) (sym a.geometry) (subst (P old.geometry) (sym (a.cells was)) (h was))
