use Rattle.map_search.proofs.products.+add_products.Given as goal

abbrev pub decreases-add_products : goal.decreases-add_products
decreases-add_products l = l.count
