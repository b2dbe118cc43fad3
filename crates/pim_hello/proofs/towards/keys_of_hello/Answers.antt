use Rattle.law_events.{specs.Adjacent.{hello_keeps_dr, keys_of_hello, keys_of_neighbour}}
use Rattle.pim_hello.{proofs.Led.{own_alone, with_dr}}
use Rattle.pim_hello.proofs.towards.keys_of_hello.Goals as goal

pub returns-then-hello_keeps_dr : goal.returns-then-hello_keeps_dr
unfolding keys_of_hello
returns-then-hello_keeps_dr c =
    own_alone c.args.world.now c.args.iface.number
    (keys_of_neighbour c.args.world.now c.args.iface.number c.args.from.bits c.args.hello.now) c.in_ok-keys.keys.items
    c.hello_keeps_dr.result (hello_keeps_dr c.args.world.now c.args.iface.number c.args.from.bits c.args.hello.now)
    c.hello_keeps_dr.ensures c.if-hello_keeps_dr.true c.in_ok-keys.ensures

pub returns : goal.returns
unfolding keys_of_hello
returns c =
    with_dr c.args.world.now c.args.iface.number
    (keys_of_neighbour c.args.world.now c.args.iface.number c.args.from.bits c.args.hello.now) c.put_keys_of_dr.new.keys.items
    c.hello_keeps_dr.result (hello_keeps_dr c.args.world.now c.args.iface.number c.args.from.bits c.args.hello.now)
    c.hello_keeps_dr.ensures c.if-hello_keeps_dr.false c.in_ok-keys.keys.items c.in_ok-keys.ensures
    c.in_ok-put_keys_of_dr.ensures
