-- The tree of a term or a formula.
use Rattle.std.specs.Prelude.{ℕ, ℤ, pos, List, [], ◌∷◌, Option, Some, None, slice_get, unwrap_or, option_and_then, codes}
use Rattle.dl_tree.specs.declared.tree.Place.{Place}
use Rattle.dl_tree.specs.declared.tree.Tree.{Tree}
use Rattle.dl_tree.specs.declared.tree.Tree.TheOpen.{Tree-F}
use Rattle.dl_tree.specs.declared.tree.Tree.TheOpen as layer
use Rattle.dl_tree.specs.declared.tree.Tree.TheVariants as tree
use Rattle.dl_tree.specs.declared.tree.Tree.TheFolds.{fold-Tree}
use Rattle.dl_term.specs.declared.syntax.Lab.{Lab}
use Rattle.dl_term.specs.declared.syntax.Lab.TheVariants.{Own, At}
use Rattle.dl_term.specs.declared.syntax.Part.{Part}
use Rattle.dl_term.specs.declared.syntax.Part.TheVariants.{Id, From, To, Live, Arg}
use Rattle.dl_term.specs.declared.syntax.Term.{Term, Num, Word, Var, Field', Row', Len, Msg, Add', Sub', Mul', If', more_of-Term as one, end_of-Term as end}
use Rattle.dl_term.specs.declared.syntax.Formula.{Formula, True, False, Eq, Lt, Le, Not', And', Or', Implies', All', Exists', Each', Any', more_of-Formula as one_formula, end_of-Formula as end_formula}
use Rattle.dl_forms.specs.Table.{NameTable as Names}
use Rattle.dl_forms.specs.declared.scope.Scope.{Scope}
use Rattle.dl_forms.specs.declared.scope.Kind.TheVariants.{Whole}
use Rattle.dl_model.specs.declared.protocol.Instances.{Instances}
use Rattle.dl_model.specs.declared.protocol.Protocol.{Protocol}
use Rattle.dl_model.specs.declared.protocol.FieldDecl.{FieldDecl}
use Rattle.dl_forms.specs.Context.{Text}
use Rattle.dl_forms.specs.Scope.{text_at, tag_syms}

abbrev pub no_place : Place
no_place = record { line = 0; col = 0 }

-- a tree without its places
abbrev pub layer_bare : Tree-F Tree → Tree
layer_bare (layer.Num v p) = tree.Num v no_place
layer_bare (layer.Sym name p) = tree.Sym name no_place
layer_bare (layer.List items p) = tree.List items no_place

unfoldable pub bare : Tree → Tree
bare = fold-Tree Tree layer_bare

abbrev pub symbol : Text → Tree
symbol name = tree.Sym name no_place

abbrev pub number : ℤ → Tree
number v = tree.Num v no_place

abbrev pub form : Text → List Tree → Tree
form word parts = tree.List (symbol word ∷ parts) no_place

-- a scope that has these labels, and no other name
abbrev pub of_labels : Option ℕ → List ℕ → Scope
of_labels own labels = record { vars = []; messages = []; words = []; labels = labels; own = own; kind = Whole; declared = [] }

module _ (names : Names) (scope : Scope) (inst : Instances) where
  abbrev pub name : ℕ → Tree
  name sym = symbol (text_at names sym)

  abbrev pub label : Lab → Tree
  label Own = symbol (codes "self")
  label (At l) = name (unwrap_or (slice_get scope.labels l) 0)

  -- the number of a label's protocol, and the protocol
  abbrev pub protocol_of : Lab → Option ℕ
  protocol_of Own = scope.own
  protocol_of (At l) = slice_get inst.of l

  abbrev pub protocol_at : Lab → Option Protocol
  protocol_at lab = option_and_then (slice_get inst.protocols) (protocol_of lab)

  abbrev pub field_at : Lab → ℕ → Option FieldDecl
  field_at lab f = option_and_then (λ (p : Protocol). slice_get p.fields f) (protocol_at lab)

  abbrev pub tag_at : Lab → ℕ → Option ℕ
  tag_at lab t = option_and_then (λ (p : Protocol). slice_get (tag_syms p) t) (protocol_at lab)

  abbrev pub field : Lab → ℕ → Tree
  field lab f = sym_of (field_at lab f)
    where
      sym_of : Option FieldDecl → Tree
      sym_of (Some d) = name d.sym
      sym_of None = symbol []

  abbrev pub message_part : Part → Tree → Tree
  message_part Id m = form (codes "id") (m ∷ [])
  message_part From m = form (codes "from") (m ∷ [])
  message_part To m = form (codes "to") (m ∷ [])
  message_part Live m = form (codes "live") (m ∷ [])
  message_part (Arg k) m = form (codes "arg") (m ∷ number (pos k) ∷ [])

  abbrev pub shown_term : Term → Tree
  shown_term (Num v) = number v
  shown_term (Word sym v) = name sym
  shown_term (Var sym) = name sym
  shown_term (Field' lab f _ (one node end)) = form (codes "get") (label lab ∷ field lab f ∷ shown_term node ∷ [])
  shown_term (Row' lab f _ (one node end) _ (one index end)) = form (codes "get") (label lab ∷ field lab f ∷ shown_term node ∷ shown_term index ∷ [])
  shown_term (Len lab) = form (codes "len") (label lab ∷ [])
  shown_term (Msg m part) = message_part part (name m)
  shown_term (Add' _ (one a end) _ (one b end)) = form (codes "+") (shown_term a ∷ shown_term b ∷ [])
  shown_term (Sub' _ (one a end) _ (one b end)) = form (codes "-") (shown_term a ∷ shown_term b ∷ [])
  shown_term (Mul' _ (one a end) _ (one b end)) = form (codes "*") (shown_term a ∷ shown_term b ∷ [])
  shown_term (If' _ (one a end) _ (one b end) _ (one x end) _ (one y end)) = form (codes "if") (shown_term a ∷ shown_term b ∷ shown_term x ∷ shown_term y ∷ [])

  abbrev pub tag : Lab → ℕ → Tree
  tag lab t = sym_of (tag_at lab t)
    where
      sym_of : Option ℕ → Tree
      sym_of (Some sym) = name sym
      sym_of None = symbol []

  abbrev pub shown_formula : Formula → Tree
  shown_formula True = symbol (codes "true")
  shown_formula False = symbol (codes "false")
  shown_formula (Eq a b) = form (codes "=") (shown_term a ∷ shown_term b ∷ [])
  shown_formula (Lt a b) = form (codes "<") (shown_term a ∷ shown_term b ∷ [])
  shown_formula (Le a b) = form (codes "<=") (shown_term a ∷ shown_term b ∷ [])
  shown_formula (Not' _ (one_formula f end_formula)) = form (codes "not") (shown_formula f ∷ [])
  shown_formula (And' _ (one_formula f end_formula) _ (one_formula g end_formula)) = form (codes "and") (shown_formula f ∷ shown_formula g ∷ [])
  shown_formula (Or' _ (one_formula f end_formula) _ (one_formula g end_formula)) = form (codes "or") (shown_formula f ∷ shown_formula g ∷ [])
  shown_formula (Implies' _ (one_formula f end_formula) _ (one_formula g end_formula)) = form (codes "implies") (shown_formula f ∷ shown_formula g ∷ [])
  shown_formula (All' sym _ (one_formula f end_formula)) = form (codes "all") (name sym ∷ shown_formula f ∷ [])
  shown_formula (Exists' sym _ (one_formula f end_formula)) = form (codes "some") (name sym ∷ shown_formula f ∷ [])
  shown_formula (Each' msg lab t _ (one_formula f end_formula)) = form (codes "each") (name msg ∷ label lab ∷ tag lab t ∷ shown_formula f ∷ [])
  shown_formula (Any' msg lab t _ (one_formula f end_formula)) = form (codes "any") (name msg ∷ label lab ∷ tag lab t ∷ shown_formula f ∷ [])
