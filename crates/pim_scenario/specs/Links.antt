-- The names of links as the reader keeps them.
use Rattle.std.{specs.Prelude.{ℕ, List, map}}
use Rattle.pim_scenario.{specs.declared.scenario.links.LinkNames.LinkNames}

abbrev pub names_in : LinkNames → List (List ℕ)
names_in l = map (λ n. n.now) l.names.items
