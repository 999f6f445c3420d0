use Rattle.index_node.proofs.SealedLaws.{node_array, node_in-same, own_vcn-same, short_node-same}
use Rattle.index_node.proofs.laws.sealed_nodes.Goals as goal

pub returns-clause-place : goal.returns-clause-place
returns-clause-place c = node_array

pub returns-clause-node : goal.returns-clause-node
returns-clause-node c form old new apart same = node_in-same old new apart same form

pub returns-clause-short : goal.returns-clause-short
returns-clause-short c form old new apart same = short_node-same old new apart same form

pub returns-clause-own_vcn : goal.returns-clause-own_vcn
returns-clause-own_vcn c = own_vcn-same
