use Rattle.tree_model.proofs.BillLaws as laws
use Rattle.tree_model.proofs.laws.empty_bill_laws.Goals as goal

pub returns : goal.returns
returns c = record { free = laws.none-refused; setattr = laws.empty-setattr; rmstream = laws.empty-rmstream }
