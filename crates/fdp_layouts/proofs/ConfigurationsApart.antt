-- The parts of the FDP Configurations log page are known by their numbers.
use Rattle.std.proofs.Common.{◌≡◌, ℕ, ◌==◌, refl, sym, ap, ◌∙◌}
use Rattle.std.specs.Prelude.{if◌then◌else◌}
use Rattle.fdp_base.specs.declared.config.Class.{Class}
use Rattle.fdp_base.specs.declared.config.Class.TheVariants as classes
use Rattle.fdp_layouts.specs.declared.configurations.ConfigHead.{ConfigHead}
use Rattle.fdp_layouts.specs.declared.configurations.ConfigDesc.{ConfigDesc}
use Rattle.fdp_layouts.specs.declared.configurations.Attributes.{Attributes}
use Rattle.fdp_layouts.specs.declared.configurations.RuhClass.{RuhClass}
use Rattle.fdp_base.specs.Codes.{class_code}
use Rattle.fdp_layouts.specs.Configurations.{config_head_numbers, attributes_numbers, config_desc_numbers, class_numbers, ruh_class_numbers}
use Rattle.fdp_layouts.proofs.Bits.{bit_apart}

pub config_head_by_numbers : (v w : ConfigHead) → config_head_numbers v ≡ config_head_numbers w → v ≡ w
config_head_by_numbers v w e =
    let configurations : v.configurations ≡ w.configurations = cc in
    let size : v.size ≡ w.size = cc in
    λ i. record { configurations = configurations i; size = size i }

attributes_by_numbers : (v w : Attributes) → attributes_numbers v ≡ attributes_numbers w → v ≡ w
attributes_by_numbers v w e =
    let rgif : v.rgif ≡ w.rgif = cc in
    let volatile_cache = bit_apart v.volatile_cache w.volatile_cache (cc) in
    let valid = bit_apart v.valid w.valid (cc) in
    λ i. record { rgif = rgif i; volatile_cache = volatile_cache i; valid = valid i }

pub config_desc_by_numbers : (v w : ConfigDesc) → config_desc_numbers v ≡ config_desc_numbers w → v ≡ w
config_desc_by_numbers v w e =
    let size : v.size ≡ w.size = cc in
    let attributes = attributes_by_numbers v.attributes w.attributes (cc) in
    let nrg : v.nrg ≡ w.nrg = cc in
    let nruh : v.nruh ≡ w.nruh = cc in
    let max_pids : v.max_pids ≡ w.max_pids = cc in
    let nnss : v.nnss ≡ w.nnss = cc in
    let runs : v.runs ≡ w.runs = cc in
    let erutl : v.erutl ≡ w.erutl = cc in
    λ i. record { size = size i; attributes = attributes i; nrg = nrg i; nruh = nruh i; max_pids = max_pids i; nnss = nnss i; runs = runs i; erutl = erutl i }

class_of : ℕ → Class
class_of n = if n == 1 then classes.Initial else classes.Persistent

class_of_code : (c : Class) → class_of (class_code c) ≡ c
unfolding class_of
class_of_code classes.Initial = refl
class_of_code classes.Persistent = refl

class_by_numbers : (v w : Class) → class_numbers v ≡ class_numbers w → v ≡ w
class_by_numbers v w e =
    let same : class_code v ≡ class_code w = cc in
    sym (class_of_code v) ∙ ap class_of same ∙ class_of_code w

pub ruh_class_by_numbers : (v w : RuhClass) → ruh_class_numbers v ≡ ruh_class_numbers w → v ≡ w
ruh_class_by_numbers v w e =
    let class = class_by_numbers v.class w.class (cc) in
    λ i. record { class = class i }
