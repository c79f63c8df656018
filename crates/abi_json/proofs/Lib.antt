mod NoLemmas
