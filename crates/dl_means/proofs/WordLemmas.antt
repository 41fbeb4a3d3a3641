-- Constants, but for those that a variable hides.
use Rattle.std.proofs.Common.{◌≡◌, ℕ, ℤ, Bool, true, false, List, [], ◌∷◌, ◌++◌, map, Option, Some, None, refl, sym, ap, ◌∙◌}
use Rattle.std.specs.Prelude.{◌||◌, if◌then◌else◌, slice_get, unwrap_or}
use Rattle.std.specs.Str.{bytes_eq}
use Rattle.std.proofs.lemmas.Slice.Eq.{bytes_eq-Decides}
use Rattle.dl_model.specs.declared.program.Proc.{Proc}
use Rattle.dl_model.specs.declared.file.Decls.{Decls}
use Rattle.dl_model.specs.Lookup.{arg_names, no_proc}
use Rattle.dl_forms.specs.Context.{Text, is_among, look_up}
use Rattle.dl_forms.specs.Scope.{text_at}
use Rattle.dl_forms.specs.Table.{NameTable}
use Rattle.dl_notation.specs.Rules.{other_words}
use Rattle.dl_means.specs.Says.{variables_in}

-- where no variable hides a constant, all are known
pub others-of-none : (words : List (Text × ℤ)) → other_words [] words ≡ words
others-of-none [] = refl
others-of-none (word ∷ words) = ap (λ rest. word ∷ rest) (others-of-none words)

-- ---- look-ups

hidden-or-not : (hides here : Bool) (x later : Option ℤ) → (if hides then (if hides then None else later) else (if here then x else (if hides then None else later))) ≡
    (if hides then None else (if here then x else later))
hidden-or-not true here x later = refl
hidden-or-not false here x later = refl

-- the name of the constant itself is hidden where the text is
same-hides : (text name : Text) (variables : List Text) (is : Bool) → bytes_eq text name ≡ is → (x later : Option ℤ) →
    (if is_among name variables then (if is_among text variables then None else later) else (if is then x else (if is_among text variables then None else later))) ≡
    (if is_among text variables then None else (if is then x else later))
same-hides text name variables true e x later =
    let same : text ≡ name = (bytes_eq-Decides text name).0 e in
    ap (λ (t : Text). if is_among t variables then (if is_among text variables then None else later) else x) (sym same) ∙ hidden-or-not (is_among text variables) true x later
same-hides text name variables false e x later = by_cases (is_among name variables)
  where
    by_cases : (b : Bool) → (if b then (if is_among text variables then None else later) else (if is_among text variables then None else later)) ≡ (if is_among text variables then None else later)
    by_cases true = refl
    by_cases false = refl

abbrev unknown : Option ℤ
unknown = None

pub look_up-others : (text : Text) (variables : List Text) (words : List (Text × ℤ)) → look_up text (other_words variables words) ≡ (if is_among text variables then None else look_up text words)
look_up-others text variables [] = by_cases (is_among text variables)
  where
    by_cases : (b : Bool) → unknown ≡ (if b then unknown else unknown)
    by_cases true = refl
    by_cases false = refl
look_up-others text variables (word ∷ words) =
    pushed (is_among word.0 variables)
    ∙ (ap (λ (later : Option ℤ). if is_among word.0 variables then later else (if bytes_eq text word.0 then Some word.1 else later)) (look_up-others text variables words)
    ∙ same-hides text word.0 variables (bytes_eq text word.0) refl (Some word.1) (look_up text words))
  where
    pushed : (b : Bool) → look_up text (if b then other_words variables words else word ∷ other_words variables words) ≡
        (if b then look_up text (other_words variables words) else (if bytes_eq text word.0 then Some word.1 else look_up text (other_words variables words)))
    pushed true = refl
    pushed false = refl

-- ---- what hides

or-moved : (a b d : Bool) → (a || (b || d)) ≡ ((a || b) || d)
or-moved true b d = refl
or-moved false b d = refl

pub among-both : (text : Text) (names : NameTable) (xs ys : List ℕ) →
    is_among text (map (text_at names) (xs ++ ys)) ≡ (is_among text (map (text_at names) xs) || is_among text (map (text_at names) ys))
among-both text names [] ys = refl
among-both text names (x ∷ xs) ys =
    ap (λ (b : Bool). bytes_eq text (text_at names x) || b) (among-both text names xs ys)
    ∙ or-moved (bytes_eq text (text_at names x)) (is_among text (map (text_at names) xs)) (is_among text (map (text_at names) ys))

-- ---- the variables of a procedure

pub variables-found : (names : NameTable) (decls : Decls) (at : ℕ) (proc : Proc) → slice_get decls.procs at ≡ Some proc →
    variables_in names decls (Some at) ≡ map (text_at names) (arg_names proc.params ++ proc.locals)
variables-found names decls at proc is = ap (λ (found : Option Proc). map (text_at names) (arg_names (unwrap_or found no_proc).params ++ (unwrap_or found no_proc).locals)) is

pub variables-none : (names : NameTable) (decls : Decls) (at : ℕ) → slice_get decls.procs at ≡ None → variables_in names decls (Some at) ≡ []
variables-none names decls at is = ap (λ (found : Option Proc). map (text_at names) (arg_names (unwrap_or found no_proc).params ++ (unwrap_or found no_proc).locals)) is
