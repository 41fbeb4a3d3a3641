-- The points of a block by their numbers, and the names of a procedure's obligations.
use Rattle.std.proofs.Common.{◌≡◌, ℕ, zero, suc, ◌+◌, Some, List, [], ◌∷◌, ◌++◌, map, length, length-append, slice_get, refl, ap, sym, ◌∙◌, arith}
use Rattle.dl_term.specs.declared.syntax.Formula.{Formula}
use Rattle.dl_model.specs.declared.program.Proc.{Proc}
use Rattle.dl_model.specs.declared.file.Decls.{Decls}
use Rattle.dl_model.specs.Block.{Block, Done, Sends, Awaits, Polls, Reads, Sets, Ifs, Whiles, Calls}
use Rattle.dl_model.specs.Lookup.{Parameter, arg_names}
use Rattle.dl_model.specs.Words.{me_word}
use Rattle.dl_model.specs.Formed.{points, proc_variables}
use Rattle.dl_inv.specs.Obligations.{with_sort}
use Rattle.dl_triples.specs.Points.{Point, pre_of, points_of, point_at}
use Rattle.dl_triples.specs.Obligations.{int_sort, vars_of}
use Rattle.dl_triples.specs.Taken.{var_names}

-- ---- numbers of points

pub count-points : (block : Block) (after : Formula) → length (points_of block after) ≡ points block
count-points Done after = refl
count-points (Sends note label tag to args rest) after = let e = count-points rest after in omega (e, arith)
count-points (Awaits note label tag sender args rest) after = let e = count-points rest after in omega (e, arith)
count-points (Polls note got label tag sender args rest) after = let e = count-points rest after in omega (e, arith)
count-points (Reads note into label field index rest) after = let e = count-points rest after in omega (e, arith)
count-points (Sets target value rest) after = count-points rest after
count-points (Ifs test left right rest) after =
    let more = pre_of rest after in
    let a = count-points left more in
    let b = count-points right more in
    let c = count-points rest after in
    let x = length-append (points_of left more) (points_of right more ++ points_of rest after) in
    let y = length-append (points_of right more) (points_of rest after) in
    omega (a, b, c, x, y, arith)
count-points (Whiles test note body rest) after =
    let a = count-points body note in
    let c = count-points rest after in
    let x = length-append (points_of body note) (points_of rest after) in
    omega (a, c, x, arith)
count-points (Calls note frame into callee args rest) after = let e = count-points rest after in omega (e, arith)

-- the points of the procedure from this number on begin with these
pub record AtPoints (proc : Proc) (k : ℕ) (ps : List Point) : Type 0 where
  pub at : (i : ℕ) (p : Point) → slice_get ps i ≡ Some p → point_at proc (k + i) ≡ p

pub first-point : (proc : Proc) (k : ℕ) (p : Point) (ps : List Point) → AtPoints proc k (p ∷ ps) → point_at proc k ≡ p
first-point proc k p ps h = let e : k + 0 ≡ k = omega arith in ap (point_at proc) (sym e) ∙ h.at 0 p refl

pub rest-points : (proc : Proc) (k : ℕ) (p : Point) (ps : List Point) → AtPoints proc k (p ∷ ps) → AtPoints proc (k + 1) ps
rest-points proc k p ps h = record { at = λ i q e. let m : (k + 1) + i ≡ k + suc i = omega arith in ap (point_at proc) m ∙ h.at (suc i) q e }

get-front : (xs ys : List Point) (i : ℕ) (p : Point) → slice_get xs i ≡ Some p → slice_get (xs ++ ys) i ≡ Some p
get-front [] ys i p e = cc
get-front (x ∷ xs) ys zero p e = e
get-front (x ∷ xs) ys (suc i) p e = get-front xs ys i p e

get-back : (xs ys : List Point) (i : ℕ) (p : Point) (j : ℕ) → j ≡ length xs + i → slice_get ys i ≡ Some p → slice_get (xs ++ ys) j ≡ Some p
get-back [] ys i p j q e = let same : j ≡ i = omega (q, arith) in ap (slice_get ys) same ∙ e
get-back (x ∷ xs) ys i p zero q e = absurd (omega (q, arith))
get-back (x ∷ xs) ys i p (suc j) q e = get-back xs ys i p j (omega (q, arith)) e

pub front-points : (proc : Proc) (k : ℕ) (xs ys : List Point) → AtPoints proc k (xs ++ ys) → AtPoints proc k xs
front-points proc k xs ys h = record { at = λ i p e. h.at i p (get-front xs ys i p e) }

pub back-points : (proc : Proc) (k m : ℕ) (xs ys : List Point) → m ≡ k + length xs → AtPoints proc k (xs ++ ys) → AtPoints proc m ys
back-points proc k m xs ys q h = record {
  at = λ i p e. let n : m + i ≡ k + (length xs + i) = omega (q, arith) in ap (point_at proc) n ∙ h.at (length xs + i) p (get-back xs ys i p (length xs + i) refl e);
}

-- ---- the names of an obligation

map-append : (f : Parameter → ℕ) (xs ys : List Parameter) → map f (xs ++ ys) ≡ map f xs ++ map f ys
map-append f [] ys = refl
map-append f (x ∷ xs) ys = ap (λ zs. f x ∷ zs) (map-append f xs ys)

sorted-names : (xs : List ℕ) → map (λ (v : Parameter). v.0) (map (with_sort int_sort) xs) ≡ xs
sorted-names [] = refl
sorted-names (x ∷ xs) = ap (λ zs. x ∷ zs) (sorted-names xs)

pub vars-names : (d : Decls) (proc : Proc) → var_names (vars_of d proc) ≡ proc_variables proc
vars-names d proc = ap (λ zs. me_word ∷ zs) (map-append (λ (v : Parameter). v.0) proc.params (map (with_sort int_sort) proc.locals) ∙ ap (λ zs. arg_names proc.params ++ zs) (sorted-names proc.locals))
