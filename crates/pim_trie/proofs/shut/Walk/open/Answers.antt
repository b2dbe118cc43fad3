use Rattle.pim_trie.{proofs.Unders.{pending_there, push_left, push_right}}
use Rattle.pim_trie.proofs.shut.Walk.open.Goals as goal

pub index-requires : goal.index-requires
index-requires g c =
    pending_there c.self.inside.nodes.now c.in_ok-key.key c.pop.new.self
    (rw c.in_ok-key.ensures at (rw (← c.self.view_is) at c.requires))

pub push-requires : goal.push-requires
push-requires g c =
    (push_right c.self.inside.nodes.now c.in_ok-key.key c.pop.new.self
    (rw c.in_ok-key.ensures at (rw (← c.self.view_is) at c.requires)) c.index.result.now c.index.ensures).1

pub push-requires-2 : goal.push-requires-2
push-requires-2 g c =
    rw (c.push.ensures, c.get.ensures.link, c.behind-self.view_is)
    (push_left c.self.inside.nodes.now c.in_ok-key.key c.pop.new.self
    (rw c.in_ok-key.ensures at (rw (← c.self.view_is) at c.requires)) c.index.result.now c.index.ensures).1
