use Rattle.std.proofs.Common.{inl, inr, sym, subst, arith, map, string_bytes}
use Rattle.program_args.specs.Arguments.{SayPeers, SaysPeer, reached}
use Rattle.program_args.specs.Readings.{chosen, texts_in}
use Rattle.program_args.proofs.Addresses.{unnamed}
use Rattle.program_args.proofs.EachWord.{as_many, length_map}
use Rattle.program_args.proofs.NodeWords.{on_wrong, same_fit}
use Rattle.program_args.proofs.member_args.asked_by.Goals as goal

pub returns-in-Err-clause-asks : goal.returns-in-Err-clause-asks
returns-in-Err-clause-asks c = λ first last choices peers folder (addresses, nodes, say). c.in-Err.ensures.one first last choices folder addresses (unnamed addresses peers say.0) nodes

pub returns-in-Err-peers_of-clause-asks : goal.returns-in-Err-peers_of-clause-asks
returns-in-Err-peers_of-clause-asks c =
    on_wrong c.in-Err-peers_of.fault _ _
    (λ wrong is first last choices peers folder (addresses, nodes, say).
    let same = c.in-Ok.ensures.one first last choices folder addresses (unnamed addresses peers say.0) nodes in
    is.1 peers (subst (λ ws. SayPeers ws peers) (sym same.3) say))
    c.in-Err-peers_of.ensures

pub returns-in-Err-peers_of-clause-wrong : goal.returns-in-Err-peers_of-clause-wrong
returns-in-Err-peers_of-clause-wrong c =
    let got = c.in-Ok.reading in
    let are = c.in-Ok.ensures.are in
    on_wrong c.in-Err-peers_of.fault _ _
    (λ wrong is. inr (got.nodes.now, got.first, got.last, got.folder.now, texts_in got.given, map string_bytes got.given.addresses.now, are.0, inr (chosen got.choices, are.1, inl is.0)))
    c.in-Err-peers_of.ensures

pub returns-in-Some-clause-wrong : goal.returns-in-Some-clause-wrong
returns-in-Some-clause-wrong c =
    let got = c.in-Ok.reading in
    let are = c.in-Ok.ensures.are in
    let peers = c.in-Ok-peers_of.peers in
    inr (
      got.nodes.now,
      got.first,
      got.last,
      got.folder.now,
      texts_in got.given,
      map string_bytes got.given.addresses.now,
      are.0,
      inr (chosen got.choices, are.1, inr (map reached peers.items, c.in-Ok-peers_of.ensures, c.in-Some.ensures.1)),
    )

pub returns-in-Some-clause-asks : goal.returns-in-Some-clause-asks
returns-in-Some-clause-asks c = λ first last choices peers folder (addresses, nodes, say).
    let same = c.in-Ok.ensures.one first last choices folder addresses (unnamed addresses peers say.0) nodes in
    let fits = nodes.in_order in
    c.in-Some.ensures.0 (same_fit first last c.in-Ok.reading.first c.in-Ok.reading.last choices (chosen c.in-Ok.reading.choices) addresses (map string_bytes c.in-Ok.reading.given.addresses.now) same.0 same.1 same.2 same.3
    (((omega arith, omega arith), nodes.listens_alone), nodes.have_ports, nodes.have_copies))

pub returns-clause-few : goal.returns-clause-few
returns-clause-few c =
    let are = c.in-Ok.ensures.are in
    let many = as_many SaysPeer (map string_bytes c.in-Ok.reading.given.addresses.now) (map reached c.in-Ok-peers_of.peers.items) c.in-Ok-peers_of.ensures.0 in
    let each_one = length_map reached c.in-Ok-peers_of.peers.items in
    let nodes = are.0.1 in
    let fits = c.in_default.ensures.0.0 in (omega (arith, c.in-Ok-peers_of.peers.ok), omega (arith, c.in-Ok-peers_of.peers.ok))
