-- The variables of the obligations of a procedure, one kind after another.
use Rattle.std.proofs.Common.{◌≡◌, ℕ, zero, suc, ◌==◌, Bool, true, false, ◌&&◌, ◌||◌, List, [], ◌∷◌, ◌++◌, map, refl, ap, sym, ◌∙◌, arith}
use Rattle.std.specs.Prelude.{unwrap_or, slice_get}
use Rattle.std.proofs.lemmas.Bool.{eqb-true}
use Rattle.dl_model.specs.declared.file.Decls.{Decls}
use Rattle.dl_model.specs.Lookup.{Parameter, arg_names, no_proc, proc_at}
use Rattle.dl_model.specs.Sorts.{has}
use Rattle.dl_model.specs.Words.{me_word, result_word}
use Rattle.dl_inv.specs.Obligations.{with_sort}
use Rattle.dl_triples.specs.Obligations.{int_sort}
use Rattle.dl_triples.specs.Taken.{var_names, names_in, names_at}
use Rattle.dl_formed_file.specs.Decided.{proc_has}

or-turned : (a b c : Bool) → (a || (b || c)) ≡ ((a || b) || c)
or-turned true b c = refl
or-turned false b c = refl

locals-told : (locals : List ℕ) (name : ℕ) → has (var_names (map (with_sort int_sort) locals)) name ≡ has locals name
locals-told [] name = refl
locals-told (local ∷ locals) name = ap (λ b. (name == local) || b) (locals-told locals name)

after-params : (params : List Parameter) (locals : List ℕ) (name : ℕ) →
    has (var_names (params ++ map (with_sort int_sort) locals)) name ≡ (has (arg_names params) name || has locals name)
after-params [] locals name = locals-told locals name
after-params (param ∷ params) locals name =
    ap (λ b. (name == param.0) || b) (after-params params locals name) ∙ or-turned (name == param.0) (has (arg_names params) name) (has locals name)

-- those of a procedure
pub in_told : (decls : Decls) (p name : ℕ) → has (names_in decls p) name ≡ proc_has (unwrap_or (slice_get decls.procs p) no_proc) name
in_told decls p name =
    let proc = proc_at decls.procs p in
    ap (λ b. (name == me_word) || b) (after-params proc.params proc.locals name)

not-zero : (k : ℕ) (b : Bool) → (suc k == 0) ≡ b → b ≡ false
not-zero k true e = let same = eqb-true (suc k) 0 e in absurd (omega (same, arith))
not-zero k false e = refl

-- those of a point
pub at_told : (decls : Decls) (p k name : ℕ) → has (names_at decls p k) name ≡ (((k == 0) && (name == result_word)) || has (names_in decls p) name)
at_told decls p zero name = refl
at_told decls p (suc k) name = sym (ap (λ (b : Bool). (b && (name == result_word)) || has (names_in decls p) name) (not-zero k (suc k == 0) refl))
