-- Proofs of what is no obligation, by the keys of the obligations.
use Rattle.std.proofs.Common.{◌≡◌, Bool, List, [], ◌∷◌, ◌++◌, map, refl, ap, ◌∙◌}
use Rattle.std.specs.List.{flat_map}
use Rattle.dl_file.specs.declared.file.Proof.{Proof}
use Rattle.dl_file.specs.declared.file.File.{File}
use Rattle.dl_faults.specs.declared.wrong.Wrong.{Wrong}
use Rattle.dl_faults.specs.Whole.{duties_of}
use Rattle.dl_faults.specs.Wrong.{at, unless}
use Rattle.dl_faults.specs.Obligations.{extra_wrong}
use Rattle.dl_verdict.specs.declared.keys.Key.{Key}
use Rattle.dl_verdict.specs.Keys.{key_of, with_keys}
use Rattle.dl_verdict.specs.Code.{extra_by_keys}
use Rattle.dl_verdict.proofs.Tables.{told-among}

module _ (file : File) (keys : List Key) (all : keys ≡ with_keys [] (map key_of (duties_of file.decls))) where
  one-told : (proof : Proof) → extra_by_keys keys proof ≡ extra_wrong file proof
  one-told proof = ap (λ (b : Bool). unless b (at 31 proof.place)) (told-among proof.duty (duties_of file.decls) keys all)

  pub each-told : (proofs : List Proof) → flat_map (extra_by_keys keys) proofs ≡ flat_map (extra_wrong file) proofs
  each-told [] = refl
  each-told (proof ∷ proofs) =
      ap (λ (wrongs : List Wrong). wrongs ++ flat_map (extra_by_keys keys) proofs) (one-told proof)
      ∙ ap (λ (wrongs : List Wrong). extra_wrong file proof ++ wrongs) (each-told proofs)
