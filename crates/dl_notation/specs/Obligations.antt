-- What an obligation's name gives to its proof: the names that are known in its script, and how many names it takes.
use Rattle.std.specs.Prelude.{ℕ, zero, suc, ℤ, pos, slice_get, Bool, true, false, ◌&&◌, ◌||◌, ◌==◌, List, [], ◌∷◌, ◌++◌, replicate, Option, Some, None, unwrap_or, codes, if◌then◌else◌}
use Rattle.std.specs.List.{list_any}
use Rattle.std.specs.Ordering.{int_eq}
use Rattle.std.specs.Str.{bytes_eq}
use Rattle.dl_tree.specs.declared.tree.Tree.{Tree, Num, Sym, List'}
use Rattle.dl_forms.specs.Context.{Text, look_up}
use Rattle.dl_forms.specs.Judge.{text_of}
use Rattle.dl_notation.specs.Environment.{TagNames, ProtocolNames, WorldNames, ProcedureNames, ObligationName, Environment, no_protocol, tag_of}
use Rattle.dl_notation.specs.Worlds.{world_named, visible, coherent, facts}

-- ---- the name of an obligation

abbrev pub texts_of : List Tree → List Text
texts_of [] = []
texts_of (part ∷ parts) = text_of part ∷ texts_of parts

abbrev pub number_in : List Tree → ℤ
number_in [] = pos 0
number_in (Num v p ∷ parts) = v
number_in (Sym name p ∷ parts) = number_in parts
number_in (List' s row p ∷ parts) = number_in parts

abbrev pub obligation_name : Text → List Tree → ObligationName
obligation_name word parts = record { texts = word ∷ texts_of parts; number = number_in parts }

abbrev pub same_texts : List Text → List Text → Bool
same_texts [] [] = true
same_texts (x ∷ xs) (y ∷ ys) = bytes_eq x y && same_texts xs ys
same_texts _ _ = false

-- the obligation has a proof
abbrev pub is_proved : Environment → ObligationName → Bool
is_proved env name = list_any (λ (proved : ObligationName). same_texts proved.texts name.texts && int_eq proved.number name.number) env.proved

-- ---- points

-- the words of the commands with an annotation
abbrev pub has_point : Text → Bool
has_point word =
    bytes_eq word (codes "send") || (bytes_eq word (codes "await") || (bytes_eq word (codes "poll")
    || (bytes_eq word (codes "read") || (bytes_eq word (codes "while") || bytes_eq word (codes "call")))))

-- an obligation of this word belongs to a point of this command
abbrev pub is_about : Text → Text → Bool
is_about obligation command =
    if bytes_eq obligation (codes "guard") then bytes_eq command (codes "send") else
    if bytes_eq obligation (codes "after") then bytes_eq command (codes "send") || bytes_eq command (codes "read") else
    if bytes_eq obligation (codes "got") then bytes_eq command (codes "await") || bytes_eq command (codes "poll") else
    if bytes_eq obligation (codes "miss") then bytes_eq command (codes "poll") else
    if bytes_eq obligation (codes "body") || bytes_eq obligation (codes "exit") then bytes_eq command (codes "while") else
    if bytes_eq obligation (codes "enter") || (bytes_eq obligation (codes "leave") || bytes_eq obligation (codes "frame")) then bytes_eq command (codes "call") else
    bytes_eq obligation (codes "stable")

-- the command of the point with this number, from 1 on
abbrev pub point_at : List Text → ℕ → Option Text
point_at points zero = None
point_at points (suc k) = slice_get points k

abbrev pub is_point_of : Text → Option Text → Bool
is_point_of obligation (Some command) = is_about obligation command
is_point_of obligation None = false

-- the procedure has a point of the obligation's kind with this number, and 0 in a `stable` is its `post`
abbrev pub has_number : Text → List Text → ℤ → Bool
has_number obligation points (pos k) = (bytes_eq obligation (codes "stable") && (k == 0)) || is_point_of obligation (point_at points k)
has_number obligation points _ = false

-- ---- what is known

-- what a proof knows by its obligation: variables, hypotheses, and of each name that it gives whether it is a message
pub record Given : Type 0 where
  pub variables : List Text
  pub hypotheses : List Text
  pub named : List Bool

abbrev pub is_receive : Text → Bool
is_receive way = bytes_eq way (codes "receive")

-- the names of a step: two nodes and the arguments of a send, a node and a message of a receive
abbrev pub step_names : Text → Option TagNames → List Bool
step_names way (Some tag) = if is_receive way then false ∷ true ∷ [] else false ∷ false ∷ replicate tag.arguments false
step_names way None = []

-- a receive has the hypothesis `mine`; a send outside the obligations of a protocol has `hooks`
abbrev pub step_hypotheses : Text → Bool → List Text
step_hypotheses way in_world =
    codes "guard" ∷ codes "fits" ∷ (if is_receive way then codes "mine" ∷ [] else if in_world then codes "hooks" ∷ [] else [])

-- the invariants before the named one
abbrev pub before : Text → List (Text × Text) → List (Text × Text)
before name [] = []
before name (invariant ∷ invariants) = if bytes_eq name invariant.0 then [] else invariant ∷ before name invariants

abbrev pub no_procedure : ProcedureNames
no_procedure = record { world = []; parameters = []; sorts = []; locals = []; points = [] }

abbrev pub procedure_named : Environment → Text → ProcedureNames
procedure_named env name = unwrap_or (look_up name env.procedures) no_procedure

abbrev pub of_protocol : Environment → Text → Text → Text → Given
of_protocol env protocol tag way = record {
  variables = [];
  hypotheses = codes "self" ∷ step_hypotheses way false;
  named = step_names way (look_up tag (unwrap_or (look_up protocol env.protocols) no_protocol).tags);
}

abbrev pub of_invariant : Environment → Text → WorldNames → Text → Text → Text → Given
of_invariant env invariant world label tag way = record {
  variables = [];
  hypotheses = coherent env world.labels ++ visible env world (before invariant env.invariants) ++ invariant ∷ step_hypotheses way true;
  named = step_names way (tag_of env label tag);
}

-- a procedure's variables, its world's facts and these hypotheses
abbrev pub of_procedure : Environment → ProcedureNames → List Text → List Text → List Bool → Given
of_procedure env procedure result hypotheses named = record {
  variables = codes "me" ∷ procedure.parameters ++ procedure.locals ++ result;
  hypotheses = facts env (world_named env procedure.world) ++ hypotheses;
  named = named;
}

abbrev pub nothing_given : Given
nothing_given = record { variables = []; hypotheses = []; named = [] }

-- the hypotheses of an obligation of a point, by its word, and whether the point is a send
abbrev pub point_hypotheses : Text → Bool → List Text
point_hypotheses word at_send =
    if bytes_eq word (codes "after") then codes "pre" ∷ (if at_send then codes "guard" ∷ [] else []) else
    if bytes_eq word (codes "got") then codes "pre" ∷ codes "mine" ∷ codes "guard" ∷ codes "fits" ∷ [] else
    if bytes_eq word (codes "body") || bytes_eq word (codes "exit") then codes "pre" ∷ codes "test" ∷ [] else
    if bytes_eq word (codes "leave") then codes "post" ∷ codes "frame" ∷ [] else codes "pre" ∷ []

-- the message that was got, and the value that a call leaves
abbrev pub point_names : Text → List Bool
point_names word = if bytes_eq word (codes "got") then true ∷ [] else if bytes_eq word (codes "leave") then false ∷ [] else []

abbrev pub is_send_point : List Text → ℤ → Bool
is_send_point points (pos k) = bytes_eq (unwrap_or (point_at points k) []) (codes "send")
is_send_point points _ = false

abbrev pub result_of : ℤ → List Text
result_of k = if int_eq k (pos 0) then codes "result" ∷ [] else []

abbrev pub in_procedure : Environment → Text → ProcedureNames → List Tree → Given
in_procedure env word procedure [] = of_procedure env procedure [] (codes "pre" ∷ []) []
in_procedure env word procedure (k ∷ []) =
    of_procedure env procedure [] (point_hypotheses word (is_send_point procedure.points (number_in (k ∷ [])))) (point_names word)
in_procedure env word procedure (k ∷ label ∷ tag ∷ way ∷ []) =
    of_procedure env procedure (result_of (number_in (k ∷ []))) (codes "pre" ∷ codes "other" ∷ step_hypotheses (text_of way) true) (step_names (text_of way) (tag_of env (text_of label) (text_of tag)))
in_procedure env word procedure _ = nothing_given

-- the same of a step, and of a procedure's obligation
abbrev pub of_step : Environment → List Tree → Given
of_step env (protocol ∷ tag ∷ way ∷ []) = of_protocol env (text_of protocol) (text_of tag) (text_of way)
of_step env (invariant ∷ label ∷ tag ∷ way ∷ []) =
    of_invariant env (text_of invariant) (world_named env (unwrap_or (look_up (text_of invariant) env.invariants) [])) (text_of label) (text_of tag) (text_of way)
of_step env _ = nothing_given

abbrev pub of_point : Environment → Text → List Tree → Given
of_point env word (procedure ∷ parts) = in_procedure env word (procedure_named env (text_of procedure)) parts
of_point env word [] = nothing_given

-- what the proof of an obligation knows, by the word of its name and the parts behind it
abbrev pub given_by : Environment → Text → List Tree → Given
given_by env word parts =
    if bytes_eq word (codes "init") || bytes_eq word (codes "deploy") then nothing_given else
    if bytes_eq word (codes "step") then of_step env parts else of_point env word parts

-- the protocol that `self` stands for in the obligation, where there is one
abbrev pub own_of : Environment → Text → List Tree → Option ProtocolNames
own_of env word (name ∷ []) = if bytes_eq word (codes "init") then look_up (text_of name) env.protocols else None
own_of env word (name ∷ tag ∷ way ∷ []) = if bytes_eq word (codes "step") then look_up (text_of name) env.protocols else None
own_of env word _ = None
