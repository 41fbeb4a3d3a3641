-- After a serial run each node with a program is there once, in the order of the node list, and has an end.
use Rattle.std.proofs.Common.{◌≡◌, ℕ, zero, suc, true, cond, Option, Some, None, is_some, List, [], ◌∷◌, ◌++◌, map, refl, ap, sym, ◌∙◌}
use Rattle.std.specs.List.{AllByRecursion as Each, AllZip, filter, range_with_len}
use Rattle.dl_model.specs.declared.file.Decls.{Decls}
use Rattle.dl_model.specs.declared.file.Program.{Program}
use Rattle.dl_model.specs.declared.history.Order.{Order}
use Rattle.dl_model.specs.declared.program.Proc.{Proc}
use Rattle.dl_model.specs.Lookup.{program_of}
use Rattle.dl_soup.specs.Seen.{Seen}
use Rattle.dl_nodes.specs.declared.bare.Bare.{Bare}
use Rattle.dl_nodes.specs.declared.begin.Run.{Run}
use Rattle.dl_nodes.specs.Begun.{IsSerialRun, first_player, first_players, first_players_of}
use Rattle.dl_nodes.specs.Ended.{HaveEnded}
use Rattle.dl_nodes.specs.Players.{HasEnd}
use Rattle.dl_nodes.specs.Serial.{Player, Rounds, round_of}
use Rattle.dl_nodes.proofs.TraceLemmas.{round-nodes}

abbrev nodes_in : List Player → List ℕ
nodes_in players = map (λ (p : Player). p.node) players

-- ---- rounds keep the nodes

rounds-nodes : (procs : List Proc) (budget rounds : ℕ) (soup : Seen) (players : List Player) (after : Seen) (ended : List Player) → Rounds procs budget rounds soup players after ended
    → nodes_in ended ≡ nodes_in players
rounds-nodes procs budget zero soup players after ended h = sym (ap nodes_in h.2) ∙ round-nodes procs budget soup players
rounds-nodes procs budget (suc more) soup players after ended h =
    rounds-nodes procs budget more (round_of procs budget soup players).soup (round_of procs budget soup players).players after ended h.1 ∙ round-nodes procs budget soup players

-- ---- the first nodes are those with a program

front-nodes : (decls : Decls) (node : ℕ) (o : Option Program) (players : List Player) (xs : List ℕ) → nodes_in players ≡ xs
    → nodes_in (first_player decls node o ++ players) ≡ cond (is_some o) (node ∷ xs) xs
front-nodes decls node (Some program) players xs e = ap (λ (ns : List ℕ). node ∷ ns) e
front-nodes decls node None players xs e = e

first-nodes : (decls : Decls) (nodes : List ℕ) → nodes_in (first_players_of decls nodes) ≡ filter (λ node. is_some (program_of decls node)) nodes
first-nodes decls [] = refl
first-nodes decls (node ∷ nodes) =
    front-nodes decls node (program_of decls node) (first_players_of decls nodes) (filter (λ node. is_some (program_of decls node)) nodes) (first-nodes decls nodes)

-- ---- the nodes that have ends

zip-nodes : (procs : List Proc) (soup : Seen) (budget : ℕ) (players : List Player) (nodes : List Bare) → AllZip (HasEnd procs soup budget) players nodes
    → map (λ (bare : Bare). bare.node) nodes ≡ nodes_in players
zip-nodes procs soup budget [] [] h = refl
zip-nodes procs soup budget [] (bare ∷ nodes) h = absurd h
zip-nodes procs soup budget (p ∷ players) [] h = absurd h
zip-nodes procs soup budget (p ∷ players) (bare ∷ nodes) h = λ i. h.0.node i ∷ zip-nodes procs soup budget players nodes h.1 i

zip-ends : (procs : List Proc) (soup : Seen) (budget : ℕ) (players : List Player) (nodes : List Bare) → AllZip (HasEnd procs soup budget) players nodes
    → Each (λ (bare : Bare). is_some bare.end ≡ true) nodes
zip-ends procs soup budget [] [] h = tt
zip-ends procs soup budget [] (bare ∷ nodes) h = absurd h
zip-ends procs soup budget (p ∷ players) [] h = absurd h
zip-ends procs soup budget (p ∷ players) (bare ∷ nodes) h = (h.0.ends, zip-ends procs soup budget players nodes h.1)

pub serial-ended : (decls : Decls) (budget : ℕ) (order : Order) (run : Run) → IsSerialRun decls budget order run → HaveEnded decls run
serial-ended decls budget order run h = record {
  nodes = zip-nodes decls.procs run.soup budget h.players run.nodes.items h.ends
      ∙ rounds-nodes decls.procs budget h.serial.0 h.first (first_players decls) run.soup h.players h.serial.1
      ∙ first-nodes decls (range_with_len 0 decls.inst.nodes);
  ends = zip-ends decls.procs run.soup budget h.players run.nodes.items h.ends;
}
